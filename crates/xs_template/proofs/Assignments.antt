-- Which templates are assignments.
use Rattle.std.proofs.Common.{◌≡◌, ℕ, ◌==◌, Bool, true, false, if◌then◌else◌, List, [], ◌∷◌, ◌++◌, refl, sym, ap, subst}
use Rattle.std.proofs.lemmas.Bool.{and_from, and_parts, eqb-true}
use Rattle.std.specs.List.{list_all}
use Rattle.xs_base.specs.Readers.{head_is}
use Rattle.xs_template.specs.TemplateLaws.{AssignsArg, assigns, IsAssignment, flush, indented, AssignmentLaw}
use Rattle.xs_template.specs.TemplatePieces.{after_gaps, begins_assignment, begins_equals, is_assignment, is_gap}
use Rattle.xs_template.specs.declared.template.Piece.{Piece}
use Rattle.xs_template.specs.declared.template.Piece.TheVariants.{Text, Named}
use Rattle.xs_template.specs.declared.variables.Variable.TheVariants.{Var, Arg, CType, Ntype, Package, FuncName, Pname, Argoff}

-- ---- the text after `$arg`

-- a text with gaps and one `=` in front
record Equals (text : List ℕ) : Type 0 where
  gap : List ℕ
  more : List ℕ
  stands : text ≡ gap ++ 61 ∷ more
  gaps : list_all is_gap gap ≡ true
  single : head_is (λ b. b == 61) more ≡ false

equals_single : (b : ℕ) (bs : List ℕ) → begins_equals (b ∷ bs) ≡ true → (b ≡ 61) × (head_is (λ c. c == 61) bs ≡ false)
equals_single b [] h = by (b == 61) refl h
  where
    by : (t : Bool) → b == 61 ≡ t → begins_equals (b ∷ []) ≡ true → (b ≡ 61) × (head_is (λ c. c == 61) [] ≡ false)
    by true e g = (eqb-true b 61 e, refl)
    by false e g = let k : begins_equals (b ∷ []) ≡ false = rw e refl in absurd cc
equals_single b (c ∷ cs) h = by (b == 61) (c == 61) refl refl h
  where
    by : (t u : Bool) → b == 61 ≡ t → c == 61 ≡ u → begins_equals (b ∷ c ∷ cs) ≡ true → (b ≡ 61) × (head_is (λ d. d == 61) (c ∷ cs) ≡ false)
    by true false e f g = (eqb-true b 61 e, f)
    by true true e f g = let k : begins_equals (b ∷ c ∷ cs) ≡ false = rw (e, f) refl in absurd cc
    by false u e f g = let k : begins_equals (b ∷ c ∷ cs) ≡ false = rw e refl in absurd cc

equals : (text : List ℕ) → begins_equals (after_gaps text) ≡ true → Equals text
equals [] h = absurd cc
equals (b ∷ bs) h = by (is_gap b) refl h (equals bs)
  where
    by : (t : Bool) → is_gap b ≡ t → begins_equals (if t then after_gaps bs else b ∷ bs) ≡ true
        → (begins_equals (after_gaps bs) ≡ true → Equals bs) → Equals (b ∷ bs)
    by true e g ih =
        let x = ih g in
        let all = and_from (is_gap b) (list_all is_gap x.gap) e x.gaps in
        record { gap = b ∷ x.gap; more = x.more; stands = ap (λ (l : List ℕ). b ∷ l) x.stands; gaps = all; single = x.single }
    by false e g ih =
        let x = equals_single b bs g in
        record { gap = []; more = bs; stands = ap (λ (c : ℕ). c ∷ bs) x.0; gaps = refl; single = x.1 }

equals_told : (gap more : List ℕ) → list_all is_gap gap ≡ true → head_is (λ b. b == 61) more ≡ false → begins_equals (after_gaps (gap ++ 61 ∷ more)) ≡ true
equals_told [] [] h s = refl
equals_told [] (c ∷ cs) h s = rw s refl
equals_told (b ∷ bs) more h s = let g = and_parts (is_gap b) (list_all is_gap bs) h in rw g.0 (equals_told bs more g.1 s)

-- ---- the pieces

text_assigns : (first : Piece) (text : List ℕ) (rest : List Piece) → first ≡ Named Arg → begins_equals (after_gaps text) ≡ true
    → AssignsArg (first ∷ Text text ∷ rest)
text_assigns first text rest is h =
    let x = equals text h in
    subst (λ (p : Piece). AssignsArg (p ∷ Text text ∷ rest)) (sym is)
    (subst (λ (t : List ℕ). AssignsArg (Named Arg ∷ Text t ∷ rest)) (sym x.stands) (assigns x.gap x.more rest x.gaps x.single))

front : (pieces : List Piece) → begins_assignment pieces ≡ true → AssignsArg pieces
front [] h = absurd cc
front (first ∷ []) h = absurd cc
front (Named Arg ∷ Text text ∷ rest) h = text_assigns (Named Arg) text rest refl h
front (Named Arg ∷ Named v ∷ rest) h = absurd cc
front (Named Var ∷ second ∷ rest) h = absurd cc
front (Named CType ∷ second ∷ rest) h = absurd cc
front (Named Ntype ∷ second ∷ rest) h = absurd cc
front (Named Package ∷ second ∷ rest) h = absurd cc
front (Named FuncName ∷ second ∷ rest) h = absurd cc
front (Named Pname ∷ second ∷ rest) h = absurd cc
front (Named Argoff ∷ second ∷ rest) h = absurd cc
front (Text text ∷ second ∷ rest) h = absurd cc

front_told : (pieces : List Piece) → AssignsArg pieces → begins_assignment pieces ≡ true
front_told pieces (assigns gap more rest gaps single) = equals_told gap more gaps single

no_text_first : (text : List ℕ) (rest : List Piece) → begins_assignment (Text text ∷ rest) ≡ true → IsAssignment (Text text ∷ rest)
no_text_first text [] h = absurd cc
no_text_first text (second ∷ rest) h = absurd cc

taken : (pieces : List Piece) → is_assignment pieces ≡ true → IsAssignment pieces
taken [] h = absurd cc
taken (Named v ∷ rest) h = flush (front (Named v ∷ rest) h)
taken (Text text ∷ rest) h = by (list_all is_gap text) refl h
  where
    by : (t : Bool) → list_all is_gap text ≡ t → (if t then begins_assignment rest else begins_assignment (Text text ∷ rest)) ≡ true
        → IsAssignment (Text text ∷ rest)
    by true e g = indented text e (front rest g)
    by false e g = no_text_first text rest g

told : (pieces : List Piece) → IsAssignment pieces → is_assignment pieces ≡ true
told pieces (flush (assigns gap more rest gaps single)) = equals_told gap more gaps single
told pieces (indented indent {pieces = rest} h d) = rw h (front_told rest d)

pub assignment_law : AssignmentLaw
assignment_law = record { taken = taken; told = told }
