-- What is read as an expression stands there by the grammar.
use Rattle.std.proofs.Common.{◌≡◌, ℕ, ◌==◌, Bool, true, false, List, [], ◌∷◌, Option, Some, None, refl, ap, sym, ◌∙◌, subst, if◌then◌else◌, Ok}
use Rattle.std.specs.Prelude.{unwrap_or}
use Rattle.std.specs.Str.{bytes_eq}
use Rattle.std.proofs.lemmas.Bool.{eqb-true}
use Rattle.std.proofs.lemmas.Slice.Eq.{bytes_eq-Decides}
use Rattle.xs_script.specs.declared.command.Number.{Number}
use Rattle.xs_script.specs.declared.line_part.Kind.{Kind}
use Rattle.xs_script.specs.declared.line_part.Kind.TheVariants as kind
use Rattle.xs_script.specs.declared.line_part.Token.{Token}
use Rattle.xs_script.specs.declared.line_part.Token.TheVariants as token
use Rattle.xs_script.specs.declared.line_part.Mark.{Mark}
use Rattle.xs_script.specs.declared.line_part.Mark.TheVariants as mark
use Rattle.xs_script.specs.CommandTree as p
use Rattle.xs_script.specs.CommandTree.{Expr}
use Rattle.xs_script.specs.Form as f
use Rattle.xs_script.specs.Form.{Form}
use Rattle.xs_script.specs.ScriptGrammar as g
use Rattle.xs_script.specs.ScriptGrammar.{Stands, NamesSub}
use Rattle.xs_base.proofs.ReaderSteps.{same_outcome, bind_ok, map_ok}
use Rattle.xs_base.specs.Readers.{head_is, tail, pure, ◌>>=◌, ◌>>◌, ◌<$>◌}
use Rattle.xs_script.specs.PartInput.{Input, is_mark, is_word, mark_byte, sees, sees_word, next, kind_of, after_word, expect, sub_name, consumed, named, exceeded, noted, refuse, part, bytes_in, bytes_at, names_sub}
use Rattle.xs_script.specs.Lex.{single}
use Rattle.xs_script.specs.ScriptNumbers.{number_of, argument_of}
use Rattle.xs_script.specs.Value.{simple, simple_by, by_name, reference, variable, argument, whole_number, ranged}
use Rattle.xs_script.specs.declared.command_words.TheConstants.{ARG, UNDEF}

-- ---- one part

mark_from : ℕ → Mark
mark_from b = if b == 62 then mark.Arrow else unwrap_or (single b) mark.Backslash

mark_from-byte : (m : Mark) → mark_from (mark_byte m) ≡ m
unfolding mark_from
mark_from-byte mark.Equals = refl
mark_from-byte mark.Arrow = refl
mark_from-byte mark.OpenRound = refl
mark_from-byte mark.CloseRound = refl
mark_from-byte mark.OpenSquare = refl
mark_from-byte mark.CloseSquare = refl
mark_from-byte mark.OpenCurly = refl
mark_from-byte mark.CloseCurly = refl
mark_from-byte mark.Comma = refl
mark_from-byte mark.Semicolon = refl
mark_from-byte mark.Backslash = refl

same_mark : (m n : Mark) → mark_byte m ≡ mark_byte n → n ≡ m
same_mark m n e = sym (mark_from-byte n) ∙ ap mark_from (sym e) ∙ mark_from-byte m

at_mark : (m : Mark) (ts : List Token) → head_is (is_mark m) ts ≡ true → ts ≡ token.Mark m ∷ tail ts
at_mark m [] h = absurd cc
at_mark m (token.Mark n ∷ ts) h = ap (λ (q : Mark). token.Mark q ∷ ts) (same_mark m n (eqb-true (mark_byte m) (mark_byte n) h))
at_mark m (token.Name n ∷ ts) h = absurd cc
at_mark m (token.Number n ∷ ts) h = absurd cc
at_mark m (token.Text n ∷ ts) h = absurd cc

at_word : (w : List ℕ) (ts : List Token) → head_is (is_word w) ts ≡ true → ts ≡ token.Name w ∷ tail ts
at_word w [] h = absurd cc
at_word w (token.Name n ∷ ts) h = ap (λ (q : List ℕ). token.Name q ∷ ts) ((bytes_eq-Decides n w).0 h)
at_word w (token.Mark n ∷ ts) h = absurd cc
at_word w (token.Number n ∷ ts) h = absurd cc
at_word w (token.Text n ∷ ts) h = absurd cc

pub sees_sound : (m : Mark) (i : Input) → sees m i ≡ true → i.rest ≡ token.Mark m ∷ tail i.rest
unfolding sees
sees_sound m i h = at_mark m i.rest h

pub word_sound : (w : List ℕ) (i : Input) → sees_word w i ≡ true → i.rest ≡ token.Name w ∷ tail i.rest
unfolding sees_word
word_sound w i h = at_word w i.rest h

-- what is reported of parts is reported of them written otherwise
pub same_parts : (P : List Token → Type 0) (ts ts' : List Token) → ts ≡ ts' → P ts' → P ts
same_parts P ts ts' eq x = subst P (sym eq) x

pub scope_after : (t : Token) (ts us : List Token) → ts ≡ t ∷ tail ts → tail ts ≡ us → ts ≡ t ∷ us
scope_after t ts us e e' = e ∙ ap (λ (l : List Token). t ∷ l) e'

pub rest_of : (i j : Input) → i ≡ j → i.rest ≡ j.rest
rest_of i j e = ap (λ (k : Input). k.rest) e

pub expect_sound : (m : Mark) (i j : Input) (u : Unit {0}) → expect m i ≡ Ok (u, j) → i.rest ≡ token.Mark m ∷ j.rest
unfolding expect next
expect_sound m i j u h = by_sees (sees m i) refl h
  where
    by_sees : (b : Bool) → sees m i ≡ b → (if b then Ok (tt, next i) else refuse i) ≡ Ok (u, j) → i.rest ≡ token.Mark m ∷ j.rest
    by_sees true e h = scope_after (token.Mark m) i.rest j.rest (sees_sound m i e) (rest_of (next i) j (same_outcome tt u (next i) j h).1)
    by_sees false e h = absurd cc

-- the part of this kind with these bytes
abbrev part_of : Kind → List ℕ → Token
part_of kind.Name n = token.Name n
part_of kind.Number n = token.Number n
part_of kind.Text n = token.Text n
part_of kind.Mark n = token.Mark mark.Comma
part_of kind.End n = token.Mark mark.Comma

bytes_from : (k : Kind) (t : Token) (n : List ℕ) → bytes_in k t ≡ Some n → t ≡ part_of k n
bytes_from kind.Name (token.Name m) n h = ap (λ (q : List ℕ). token.Name q) cc
bytes_from kind.Number (token.Number m) n h = ap (λ (q : List ℕ). token.Number q) cc
bytes_from kind.Text (token.Text m) n h = ap (λ (q : List ℕ). token.Text q) cc
bytes_from kind.Name (token.Number m) n h = absurd cc
bytes_from kind.Name (token.Text m) n h = absurd cc
bytes_from kind.Name (token.Mark m) n h = absurd cc
bytes_from kind.Number (token.Name m) n h = absurd cc
bytes_from kind.Number (token.Text m) n h = absurd cc
bytes_from kind.Number (token.Mark m) n h = absurd cc
bytes_from kind.Text (token.Name m) n h = absurd cc
bytes_from kind.Text (token.Number m) n h = absurd cc
bytes_from kind.Text (token.Mark m) n h = absurd cc
bytes_from kind.Mark t n h = absurd cc
bytes_from kind.End t n h = absurd cc

part_rest : (k : Kind) (ts : List Token) (i j : Input) (n : List ℕ) → consumed (bytes_at k ts) i ≡ Ok (n, j) → (ts ≡ part_of k n ∷ tail ts) × (next i ≡ j)
part_rest k [] i j n h = absurd cc
part_rest k (t ∷ ts) i j n h = by_bytes (bytes_in k t) refl h
  where
    by_bytes : (o : Option (List ℕ)) → bytes_in k t ≡ o → consumed o i ≡ Ok (n, j) → (t ∷ ts ≡ part_of k n ∷ ts) × (next i ≡ j)
    by_bytes None e h = absurd cc
    by_bytes (Some m) e h =
        let s = same_outcome m n (next i) j h in
        (ap (λ (q : Token). q ∷ ts) (bytes_from k t n (e ∙ ap (λ (q : List ℕ). Some q) s.0)), s.1)

part_sound : (k : Kind) (i j : Input) (n : List ℕ) → part k i ≡ Ok (n, j) → i.rest ≡ part_of k n ∷ j.rest
unfolding part next
part_sound k i j n h = let r = part_rest k i.rest i j n h in scope_after (part_of k n) i.rest j.rest r.0 (rest_of (next i) j r.1)

pub name_sound : (i j : Input) (n : List ℕ) → part kind.Name i ≡ Ok (n, j) → i.rest ≡ token.Name n ∷ j.rest
name_sound = part_sound kind.Name

number_sound : (i j : Input) (n : List ℕ) → part kind.Number i ≡ Ok (n, j) → i.rest ≡ token.Number n ∷ j.rest
number_sound = part_sound kind.Number

pub text_sound : (i j : Input) (n : List ℕ) → part kind.Text i ≡ Ok (n, j) → i.rest ≡ token.Text n ∷ j.rest
text_sound = part_sound kind.Text

pub sub_sound : (i j : Input) (n : List ℕ) → sub_name i ≡ Ok (n, j) → (t : Token) × NamesSub n t × (i.rest ≡ t ∷ j.rest)
unfolding sub_name
sub_sound i j n h = by_kind (kind_of i) h
  where
    by_kind : (k : Kind) → (if names_sub k then part k i else refuse i) ≡ Ok (n, j) → (t : Token) × NamesSub n t × (i.rest ≡ t ∷ j.rest)
    by_kind kind.Name h = (token.Name n, g.bare, name_sound i j n h)
    by_kind kind.Number h = absurd cc
    by_kind kind.Text h = (token.Text n, g.in_quotes, text_sound i j n h)
    by_kind kind.Mark h = absurd cc
    by_kind kind.End h = absurd cc

-- ---- expressions without brackets

ranged_sound : {A : Type 0} (o : Option A) (stand_in a : A) (digits : List ℕ) (i j : Input) → ranged o stand_in digits i ≡ Ok (a, j) → i.rest ≡ j.rest
unfolding exceeded
ranged_sound (Some x) stand_in a digits i j h = rest_of i j (same_outcome x a i j h).1
ranged_sound None stand_in a digits i j h = rest_of (exceeded digits i) j (same_outcome stand_in a (exceeded digits i) j h).1

pub variable_sound : (i j : Input) (n : List ℕ) → variable i ≡ Ok (n, j) → i.rest ≡ token.Name n ∷ j.rest
unfolding variable named
variable_sound i j n h =
    let q = bind_ok (part kind.Name i) (λ m. noted (named m) >> pure m) (n, j) h in
    let s = same_outcome q.0 n (named q.0 q.1) j q.3 in
    name_sound i q.1 q.0 q.2 ∙ ap (λ (m : List ℕ). token.Name m ∷ q.1.rest) s.0 ∙ ap (λ (l : List Token). token.Name n ∷ l) (rest_of (named q.0 q.1) j s.1)

whole_number_sound : (i j : Input) (n : Number) → whole_number i ≡ Ok (n, j) → (t : List ℕ) × (i.rest ≡ token.Number t ∷ j.rest)
unfolding whole_number
whole_number_sound i j n h =
    let q = bind_ok (part kind.Number i) (λ t. ranged (number_of t) _ t) (n, j) h in
    (q.0, number_sound i q.1 q.0 q.2 ∙ ap (λ (l : List Token). token.Number q.0 ∷ l) (ranged_sound (number_of q.0) _ n q.0 q.1 j q.3))

pub argument_sound : (i j : Input) (k : ℕ) → argument i ≡ Ok (k, j) → (t : List ℕ) × (i.rest ≡ token.Name ARG.now ∷ token.Number t ∷ j.rest)
unfolding argument after_word next
argument_sound i j k h = by_arg (sees_word ARG.now i) refl h
  where
    by_arg : (b : Bool) → sees_word ARG.now i ≡ b
        → (if b then (part kind.Number >>= λ t. ranged (argument_of t) 0 t) else refuse) (if b then next i else i) ≡ Ok (k, j)
        → (t : List ℕ) × (i.rest ≡ token.Name ARG.now ∷ token.Number t ∷ j.rest)
    by_arg true e h =
        let q = bind_ok (part kind.Number (next i)) (λ t. ranged (argument_of t) 0 t) (k, j) h in (
          q.0,
          scope_after (token.Name ARG.now) i.rest (token.Number q.0 ∷ j.rest) (word_sound ARG.now i e)
              (number_sound (next i) q.1 q.0 q.2 ∙ ap (λ (l : List Token). token.Number q.0 ∷ l) (ranged_sound (argument_of q.0) 0 k q.0 q.1 j q.3)),
        )
    by_arg false e h = absurd cc

-- an expression stands between two inputs
abbrev pub Standing : Bool → Input → Input → Type 0
Standing s i j = (e : Form) × Stands s e i.rest j.rest

by_name_sound : (s : Bool) (i j : Input) (v : Expr) → by_name s i ≡ Ok (v, j) → Standing s i j
unfolding by_name after_word next sees_word
by_name_sound s i j v h = by_undef (sees_word UNDEF.now i) refl h
  where
    by_place : (s : Bool) → sees_word UNDEF.now i ≡ false → (if s then p.Argument <$> argument else p.Variable <$> variable) i ≡ Ok (v, j)
        → Standing s i j
    by_place true e h =
        let q = map_ok p.Argument (argument i) v j h in
        let a = argument_sound i j q.0 q.1 in (
          f.Argument a.0,
          same_parts (λ (l : List Token). Stands true (f.Argument a.0) l j.rest) i.rest (token.Name ARG.now ∷ token.Number a.0
              ∷ j.rest) a.1 g.argument,
        )
    by_place false e h =
        let q = map_ok p.Variable (variable i) v j h in
        let r = variable_sound i j q.0 q.1 in
        let u : bytes_eq q.0 UNDEF.now ≡ false = rw r at e in
        (f.Variable q.0, same_parts (λ (l : List Token). Stands false (f.Variable q.0) l j.rest) i.rest (token.Name q.0 ∷ j.rest) r (g.variable u))

    by_undef : (b : Bool) → sees_word UNDEF.now i ≡ b
        → (if b then pure p.Undef else (if s then p.Argument <$> argument else p.Variable <$> variable)) (if b then next i else i) ≡ Ok (v, j) → Standing s i j
    by_undef true e h =
        let r = scope_after (token.Name UNDEF.now) i.rest j.rest (word_sound UNDEF.now i e)
        (rest_of (next i) j (same_outcome p.Undef v (next i) j h).1) in
        (f.Undef, same_parts (λ (l : List Token). Stands s f.Undef l j.rest) i.rest (token.Name UNDEF.now ∷ j.rest) r g.undef)
    by_undef false e h = by_place s e h

reference_sound : (s : Bool) (i j : Input) (v : Expr) → reference s i ≡ Ok (v, j) → Standing s i j
unfolding reference
reference_sound true i j v h = absurd cc
reference_sound false i j v h =
    let q = bind_ok (expect mark.Backslash i) (λ _. p.Reference <$> variable) (v, j) h in
    let q' = map_ok p.Reference (variable q.1) v j q.3 in
    let r = expect_sound mark.Backslash i q.1 q.0 q.2 ∙ ap (λ (l : List Token). token.Mark mark.Backslash ∷ l) (variable_sound q.1 j q'.0 q'.1) in (
      f.Reference q'.0,
      same_parts (λ (l : List Token). Stands false (f.Reference q'.0) l j.rest) i.rest (token.Mark mark.Backslash ∷ token.Name q'.0
          ∷ j.rest) r g.reference,
    )

pub simple_sound : (s : Bool) (i j : Input) (v : Expr) → simple s i ≡ Ok (v, j) → Standing s i j
unfolding simple
simple_sound s i j v h = by_kind (kind_of i) h
  where
    by_kind : (k : Kind) → simple_by s k i ≡ Ok (v, j) → Standing s i j
    by_kind kind.Name h = by_name_sound s i j v h
    by_kind kind.Number h =
        let q = map_ok p.Num (whole_number i) v j h in
        let r = whole_number_sound i j q.0 q.1 in
        (f.Number r.0, same_parts (λ (l : List Token). Stands s (f.Number r.0) l j.rest) i.rest (token.Number r.0 ∷ j.rest) r.1 g.number)
    by_kind kind.Text h =
        let q = map_ok p.Text (part kind.Text i) v j h in
        (f.Text q.0, same_parts (λ (l : List Token). Stands s (f.Text q.0) l j.rest) i.rest (token.Text q.0 ∷ j.rest) (text_sound i j q.0 q.1) g.text)
    by_kind kind.Mark h = reference_sound s i j v h
    by_kind kind.End h = absurd cc
