-- What stands on a line by the grammar is read as that.
use Rattle.std.proofs.Common.{◌≡◌, ℕ, zero, suc, ◌+◌, ◌==◌, Bool, true, false, List, [], ◌∷◌, ◌++◌, length, append_assoc, refl, ap, ◌∙◌, arith}
use Rattle.std.specs.Prelude.{pos}
use Rattle.xs_script.specs.declared.command.Number.TheVariants as num
use Rattle.xs_script.specs.declared.line_part.Token.{Token}
use Rattle.xs_script.specs.declared.line_part.Mark.{Mark}
use Rattle.xs_script.specs.declared.line_part.Mark.TheVariants as mark
use Rattle.xs_script.specs.CommandTree as p
use Rattle.xs_script.specs.CommandTree.{Expr, exprs_of, entries_of}
use Rattle.xs_script.specs.Form as f
use Rattle.xs_script.specs.Form.{Form, Forms, Pairs}
use Rattle.xs_script.specs.ScriptGrammar as g
use Rattle.xs_script.specs.ScriptGrammar.{Stands, Elements, Entries}
use Rattle.xs_base.specs.Readers.{and_then, head_is}
use Rattle.xs_script.specs.PartInput.{Input, is_mark, mark_byte, sees, sees_word, next, kind_of, after, after_word, expect, named, opened, part}
use Rattle.xs_script.specs.GrammarMeaning.{made, made_list, made_pairs}
use Rattle.xs_script.specs.ScriptNumbers.{number_of, argument_of}
use Rattle.xs_script.specs.Value.{Bracket, InList, InHash, begins, ends, finished, turns, begin, in_square, in_curly, follow_list, follow_hash, key, keyed, simple, by_name, reference, variable, argument, whole_number}
use Rattle.xs_script.proofs.Forms.{at, out_of_range, met_form, met_list, met_pairs, steps, steps_list, steps_pairs, ranged_done}

-- an expression begins with no mark but these
not_first : (m : Mark) → (mark_byte m == 92) ≡ false → (mark_byte m == 91) ≡ false → (mark_byte m == 123) ≡ false → {s : Bool} {e : Form} {ts us : List Token}
    → Stands s e ts us → head_is (is_mark m) ts ≡ false
not_first m backslash square curly g.undef = refl
not_first m backslash square curly g.number = refl
not_first m backslash square curly g.text = refl
not_first m backslash square curly (g.variable u) = refl
not_first m backslash square curly g.reference = backslash
not_first m backslash square curly g.argument = refl
not_first m backslash square curly (g.array g.nothing_in) = square
not_first m backslash square curly (g.array (g.elements_in x)) = square
not_first m backslash square curly g.no_pairs = curly
not_first m backslash square curly (g.pairs x) = curly

-- nor do elements
pub not_in_front : (m : Mark) → (mark_byte m == 92) ≡ false → (mark_byte m == 91) ≡ false → (mark_byte m == 123) ≡ false
    → {closing : Mark} {s : Bool} {fs : Forms} {ts us : List Token} → Elements closing s fs ts us → head_is (is_mark m) ts ≡ false
not_in_front m backslash square curly (g.last_element x) = not_first m backslash square curly x
not_in_front m backslash square curly (g.more_elements x y) = not_first m backslash square curly x

entries_not_curly : {s : Bool} {ps : Pairs} {ts us : List Token} → Entries s ps ts us → head_is (is_mark mark.CloseCurly) ts ≡ false
entries_not_curly (g.last_pair x) = refl
entries_not_curly (g.more_pairs x y) = refl

mutual
  unfolding turns begin simple by_name reference variable argument whole_number in_square in_curly follow_list follow_hash key sees sees_word next kind_of after
      after_word expect part named opened

  pub form_done : {s : Bool} {e : Form} {ts us : List Token} → Stands s e ts us → (m n : ℕ) → m ≡ n + steps e → (around : List Bracket) (i : Input)
      → turns s m (begins around) (at ts i) ≡ turns s n (ends around (made (length around) e)) (at us (met_form (length around) e i))
  form_done x zero n e around i = absurd (omega arith)
  form_done (g.undef {s = s} {ts = ts}) (suc m) n e around i = ap (λ k. turns s k (ends around p.Undef) (at ts i)) (omega arith)
  form_done (g.number {s = s} {n = t} {ts = ts}) (suc m) n e around i =
      rw (ranged_done (number_of t) (num.Int (pos 0)) t ts i) (ap (λ k. turns s k (ends around (made 0 (f.Number t))) (at ts (out_of_range (number_of t) t i)))
      (omega arith))
  form_done (g.text {s = s} {content = t} {ts = ts}) (suc m) n e around i = ap (λ k. turns s k (ends around (p.Text t)) (at ts i)) (omega arith)
  form_done (g.variable {n = t} {ts = ts} u) (suc m) n e around i =
      rw u (ap (λ k. turns false k (ends around (p.Variable t)) (at ts (named t i))) (omega arith))
  form_done (g.reference {n = t} {ts = ts}) (suc m) n e around i = ap (λ k. turns false k (ends around (p.Reference t)) (at ts (named t i))) (omega arith)
  form_done (g.argument {k = t} {ts = ts}) (suc m) n e around i =
      rw (ranged_done (argument_of t) 0 t ts i) (ap (λ k. turns true k (ends around (made 0 (f.Argument t))) (at ts (out_of_range (argument_of t) t i)))
      (omega arith))
  form_done (g.array (g.nothing_in {s = s} {ts = ts})) (suc m) n e around i =
      ap (λ k. turns s k (finished around (p.ListOf p.NoMore)) (at ts (opened (length around + 1) i))) (omega arith)
  form_done (g.array (g.elements_in {s = s} {fs = fs} {ts = ts} {us = us} x)) (suc m) n e around i =
      rw (not_in_front mark.CloseSquare refl refl refl x) (elements_done x m n (omega arith) [] around (opened (length around + 1) i))
  form_done (g.no_pairs {s = s} {ts = ts}) (suc m) n e around i =
      ap (λ k. turns s k (finished around (p.HashOf p.NoEntry)) (at ts (opened (length around + 1) i))) (omega arith)
  form_done (g.pairs {s = s} {ps = ps} {ts = ts} {us = us} x) (suc m) n e around i =
      rw (entries_not_curly x) (entries_done x m n (omega arith) [] around (opened (length around + 1) i))

  elements_done : {s : Bool} {fs : Forms} {ts us : List Token} → Elements mark.CloseSquare s fs ts us → (m n : ℕ) → m ≡ n + steps_list fs
      → (items : List Expr) (around : List Bracket) (i : Input)
      → turns s m (begins (InList items ∷ around)) (at ts i)
      ≡ turns s n (finished around (p.ListOf (exprs_of (items ++ made_list (suc (length around)) fs)))) (at us (met_list (suc (length around)) fs i))
  elements_done (g.last_element x) m n e items around i = form_done x m (suc n) (omega arith) (InList items ∷ around) i
  elements_done (g.more_elements {s = s} {e = h} {fs = fs} {ts = ts} {us = us} {vs = vs} x y) m n e items around i =
      let v = made (suc (length around)) h in
      let j = met_form (suc (length around)) h i in
      form_done x m (suc (n + steps_list fs)) (omega arith) (InList items ∷ around) i
      ∙ elements_done y (n + steps_list fs) n refl (items ++ v ∷ []) around j
      ∙ ap (λ l. turns s n (finished around (p.ListOf (exprs_of l))) (at vs (met_list (suc (length around)) fs j)))
      (append_assoc items (v ∷ []) (made_list (suc (length around)) fs))

  entries_done : {s : Bool} {ps : Pairs} {ts us : List Token} → Entries s ps ts us → (m n : ℕ) → m ≡ n + steps_pairs ps
      → (entries : List (List ℕ × Expr)) (around : List Bracket) (i : Input)
      → and_then (keyed entries around (at ts i)) (turns s m)
      ≡ turns s n (finished around (p.HashOf (entries_of (entries ++ made_pairs (suc (length around)) ps)))) (at us (met_pairs (suc (length around)) ps i))
  entries_done (g.last_pair {k = k} x) m n e entries around i = form_done x m (suc n) (omega arith) (InHash entries k ∷ around) i
  entries_done (g.more_pairs {s = s} {k = k} {e = h} {ps = ps} {ts = ts} {us = us} {vs = vs} x y) m n e entries around i =
      let v = made (suc (length around)) h in
      let j = met_form (suc (length around)) h i in
      form_done x m (suc (n + steps_pairs ps)) (omega arith) (InHash entries k ∷ around) i
      ∙ entries_done y (n + steps_pairs ps) n refl (entries ++ (k, v) ∷ []) around j
      ∙ ap (λ l. turns s n (finished around (p.HashOf (entries_of l))) (at vs (met_pairs (suc (length around)) ps j)))
      (append_assoc entries ((k, v) ∷ []) (made_pairs (suc (length around)) ps))
