-- Each text expands by the rules, or stops.
use Rattle.std.proofs.Common.{◌≡◌, ℕ, zero, suc, ◌≤◌, ◌==◌, Bool, true, false, if◌then◌else◌, List, [], ◌∷◌, ◌++◌, length, Option, None, Some, ◌⊎◌, inl, inr, refl, sym, ap, subst, ◌∙◌, arith, length-append}
use Rattle.std.proofs.lemmas.Bool.{eqb-true}
use Rattle.xs_base.proofs.FrontRuns.{after_seam, after_stops, front_after, front_belongs, front_seam}
use Rattle.xs_base.specs.ByteRuns.{after_run, belongs, front_of}
use Rattle.xs_base.specs.Readers.{head_is}
use Rattle.xs_base.specs.Scanning.{is_word_byte}
use Rattle.xs_base.specs.declared.byte_runs.ByteClass.TheVariants.{Word}
use Rattle.xs_template.proofs.VariableNames.{name_is_word}
use Rattle.xs_template.specs.TemplatePieces.{value_of}
use Rattle.xs_template.specs.TemplateSteps.{is_escaped}
use Rattle.xs_template.specs.TemplateText.{Expands, done, keeps, loses, replaces, replaces_braced, Stops, no_variable, no_braced, after_kept, after_lost, after_name, after_braced, is_left_brace, stays}
use Rattle.xs_template.specs.Variables.{variable_named}
use Rattle.xs_template.specs.declared.template.Names.{Names}
use Rattle.xs_template.specs.declared.variables.Variable.{Variable}

abbrev pub Reads : Names → List ℕ → Type 0
Reads names text = ((out : List ℕ) × Expands names text out) ⊎ ((word : List ℕ) × Stops text word)

module _ (names : Names) where
  with_kept : (b : ℕ) (text : List ℕ) → stays b text ≡ true → Reads names text → Reads names (b ∷ text)
  with_kept b text h (inl p) = inl (b ∷ p.0, keeps b h p.1)
  with_kept b text h (inr p) = inr (p.0, after_kept b h p.1)

  with_lost : (b : ℕ) (text : List ℕ) → is_escaped b ≡ true → Reads names text → Reads names (92 ∷ b ∷ text)
  with_lost b text h (inl p) = inl (b ∷ p.0, loses b h p.1)
  with_lost b text h (inr p) = inr (p.0, after_lost b h p.1)

  with_name : (name text : List ℕ) (v : Variable) → variable_named name ≡ Some v → head_is is_word_byte text ≡ false → Reads names text
      → Reads names (36 ∷ (name ++ text))
  with_name name text v is whole (inl p) = inl (value_of names v ++ p.0, replaces name v is whole p.1)
  with_name name text v is whole (inr p) = inr (p.0, after_name name v is whole p.1)

  with_braced : (name text : List ℕ) (v : Variable) → variable_named name ≡ Some v → Reads names text → Reads names (36 ∷ 123 ∷ (name ++ 125 ∷ text))
  with_braced name text v is (inl p) = inl (value_of names v ++ p.0, replaces_braced name v is p.1)
  with_braced name text v is (inr p) = inr (p.0, after_braced name v is p.1)

  -- the texts that are at most so long
  abbrev Shorter : ℕ → Type 0
  Shorter k = (text : List ℕ) → length text ≤ k → Reads names text

-- ---- a `$`, with a name in front of what stands after it

not_left_brace : (text : List ℕ) → head_is (λ b. b == 123) text ≡ false → is_left_brace (front_of Word text) (after_run Word text) ≡ false
not_left_brace [] h = refl
not_left_brace (b ∷ bs) h = by (belongs Word b) refl
  where
    by : (t : Bool) → belongs Word b ≡ t → is_left_brace (if t then b ∷ front_of Word bs else []) (if t then after_run Word bs else b ∷ bs) ≡ false
    by true e = refl
    by false e = h

after_shorter : (text : List ℕ) → length (after_run Word text) ≤ length text
after_shorter text = let e = ap (λ (l : List ℕ). length l) (front_after Word text) in omega (arith, e, length-append (front_of Word text) (after_run Word text))

at_name : (names : Names) (k : ℕ) (text : List ℕ) → length text ≤ k → Shorter names k → head_is (λ b. b == 123) text ≡ false → Reads names (36 ∷ text)
at_name names k text short more brace =
    subst (λ (t : List ℕ). Reads names (36 ∷ t)) (front_after Word text) (by (variable_named (front_of Word text)) refl)
  where
    by : (o : Option Variable) → variable_named (front_of Word text) ≡ o → Reads names (36 ∷ (front_of Word text ++ after_run Word text))
    by (Some v) e =
        with_name names (front_of Word text) (after_run Word text) v e (after_stops Word text)
        (more (after_run Word text) (let s = after_shorter text in omega arith))
    by None e =
        inr (
          36 ∷ front_of Word text,
          no_variable (front_of Word text) (after_run Word text) (front_belongs Word text) (after_stops Word text) (not_left_brace text brace) e,
        )

-- ---- a `${`

-- what is in front of a closing brace, where it is a name
name_in_front : (text name rest : List ℕ) (v : Variable) → text ≡ name ++ 125 ∷ rest → variable_named name ≡ Some v
    → (front_of Word text ≡ name) × (after_run Word text ≡ 125 ∷ rest)
name_in_front text name rest v e is = (
  ap (front_of Word) e ∙ front_seam Word name (125 ∷ rest) (name_is_word name v is) refl,
  ap (after_run Word) e ∙ after_seam Word name (125 ∷ rest) (name_is_word name v is) refl,
)

no_name_inside : (text : List ℕ) → ((v : Variable) → variable_named (front_of Word text) ≡ Some v → head_is (λ b. b == 125) (after_run Word text) ≡ false)
    → (name rest : List ℕ) → text ≡ name ++ 125 ∷ rest → variable_named name ≡ None
no_name_inside text none name rest e = by (variable_named name) refl
  where
    by : (o : Option Variable) → variable_named name ≡ o → o ≡ None
    by None is = refl
    by (Some v) is =
        let p = name_in_front text name rest v e is in
        let closes : head_is (λ b. b == 125) (after_run Word text) ≡ true = ap (λ (l : List ℕ). head_is (λ b. b == 125) l) p.1 in
        let open_end : head_is (λ b. b == 125) (after_run Word text) ≡ false = none v (ap variable_named p.0 ∙ is) in
        absurd cc

at_brace : (names : Names) (k : ℕ) (text : List ℕ) → length text ≤ k → Shorter names k → Reads names (36 ∷ 123 ∷ text)
at_brace names k text short more = by (variable_named (front_of Word text)) (after_run Word text) refl refl
  where
    left : after_run Word text ≡ after_run Word text
    left = refl

    open_brace : ((v : Variable) → variable_named (front_of Word text) ≡ Some v → head_is (λ b. b == 125) (after_run Word text) ≡ false)
        → Reads names (36 ∷ 123 ∷ text)
    open_brace none = inr (36 ∷ 123 ∷ [], no_braced (no_name_inside text none))

    closed : (v : Variable) (b : ℕ) (bs : List ℕ) → variable_named (front_of Word text) ≡ Some v → after_run Word text ≡ b ∷ bs → b ≡ 125
        → Reads names (36 ∷ 123 ∷ text)
    closed v b bs is e at =
        let whole : front_of Word text ++ 125 ∷ bs ≡ text =
        ap (λ (c : ℕ). front_of Word text ++ c ∷ bs) (sym at) ∙ ap (λ (l : List ℕ). front_of Word text ++ l) (sym e) ∙ front_after Word text in
        let size : length (after_run Word text) ≡ suc (length bs) = ap (λ (l : List ℕ). length l) e in
        subst (λ (t : List ℕ). Reads names (36 ∷ 123 ∷ t)) whole
        (with_braced names (front_of Word text) bs v is (more bs (let s = after_shorter text in omega arith)))

    ends : (v : Variable) (b : ℕ) (bs : List ℕ) (t : Bool) → variable_named (front_of Word text) ≡ Some v → after_run Word text ≡ b ∷ bs → b == 125 ≡ t
        → Reads names (36 ∷ 123 ∷ text)
    ends v b bs true is e at = closed v b bs is e (eqb-true b 125 at)
    ends v b bs false is e at = open_brace (λ w h. ap (λ (l : List ℕ). head_is (λ c. c == 125) l) e ∙ at)

    by : (o : Option Variable) (after : List ℕ) → variable_named (front_of Word text) ≡ o → after_run Word text ≡ after → Reads names (36 ∷ 123 ∷ text)
    by None after is e = open_brace (λ v h. absurd cc)
    by (Some v) [] is e = open_brace (λ w h. ap (λ (l : List ℕ). head_is (λ c. c == 125) l) e)
    by (Some v) (b ∷ bs) is e = ends v b bs (b == 125) is e refl

-- ---- any byte

at_dollar : (names : Names) (k : ℕ) (text : List ℕ) → length text ≤ k → Shorter names k → Reads names (36 ∷ text)
at_dollar names k [] short more = at_name names k [] short more refl
at_dollar names k (b ∷ bs) short more = by (b == 123) refl
  where
    by : (t : Bool) → b == 123 ≡ t → Reads names (36 ∷ b ∷ bs)
    by true e = subst (λ (c : ℕ). Reads names (36 ∷ c ∷ bs)) (sym (eqb-true b 123 e)) (at_brace names k bs (omega arith) more)
    by false e = at_name names k (b ∷ bs) short more e

at_backslash : (names : Names) (k : ℕ) (text : List ℕ) → length text ≤ k → Shorter names k → Reads names (92 ∷ text)
at_backslash names k [] short more = with_kept names 92 [] refl (more [] short)
at_backslash names k (b ∷ bs) short more = by (is_escaped b) refl
  where
    kept : is_escaped b ≡ false → stays 92 (b ∷ bs) ≡ true
    kept e = rw e refl

    by : (t : Bool) → is_escaped b ≡ t → Reads names (92 ∷ b ∷ bs)
    by true e = with_lost names b bs e (more bs (omega arith))
    by false e = with_kept names 92 (b ∷ bs) (kept e) (more (b ∷ bs) short)

at_byte : (names : Names) (k : ℕ) (b : ℕ) (text : List ℕ) → length text ≤ k → Shorter names k → Reads names (b ∷ text)
at_byte names k b text short more = by (b == 36) (b == 92) refl refl
  where
    kept : b == 36 ≡ false → b == 92 ≡ false → stays b text ≡ true
    kept e f = rw (e, f) refl

    by : (p q : Bool) → b == 36 ≡ p → b == 92 ≡ q → Reads names (b ∷ text)
    by true q e f = subst (λ (c : ℕ). Reads names (c ∷ text)) (sym (eqb-true b 36 e)) (at_dollar names k text short more)
    by false true e f = subst (λ (c : ℕ). Reads names (c ∷ text)) (sym (eqb-true b 92 f)) (at_backslash names k text short more)
    by false false e f = with_kept names b text (kept e f) (more text short)

within : (names : Names) (k : ℕ) (text : List ℕ) → length text ≤ k → Reads names text
within names k [] short = inl ([], done)
within names zero (b ∷ bs) short = absurd (omega arith)
within names (suc k) (b ∷ bs) short = at_byte names k b bs (omega arith) (λ t s. within names k t s)

pub each_text : (names : Names) (text : List ℕ) → Reads names text
each_text names text = within names (length text) text (omega arith)
