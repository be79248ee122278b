-- The names of variables are words.
use Rattle.std.proofs.Common.{◌≡◌, ℕ, Bool, true, false, if◌then◌else◌, List, [], ◌∷◌, None, Some, refl, subst}
use Rattle.std.proofs.lemmas.Bool.{and_parts}
use Rattle.std.proofs.lemmas.Slice.Eq.{bytes_eq-Decides}
use Rattle.std.specs.List.{list_all}
use Rattle.std.specs.Str.{bytes_eq}
use Rattle.xs_base.specs.Scanning.{is_word_byte}
use Rattle.xs_template.specs.TemplateSteps.{is_no_name}
use Rattle.xs_template.specs.Variables.{variable_in, variable_named, variables}
use Rattle.xs_template.specs.declared.variables.Variable.{Variable}

-- a test that holds of all names that rows list
named_passes : (p : List ℕ → Bool) (rows : List (List ℕ × Variable)) (name : List ℕ) (v : Variable)
    → list_all (λ (row : List ℕ × Variable). p row.0) rows ≡ true → variable_in rows name ≡ Some v → p name ≡ true
named_passes p [] name v all h = absurd cc
named_passes p (row ∷ rows) name v all h = by (bytes_eq row.0 name) refl h (λ g. named_passes p rows name v parts.1 g)
  where
    parts : (p row.0 ≡ true) × (list_all (λ (r : List ℕ × Variable). p r.0) rows ≡ true)
    parts = and_parts (p row.0) (list_all (λ (r : List ℕ × Variable). p r.0) rows) all

    by : (t : Bool) → bytes_eq row.0 name ≡ t → (if t then Some row.1 else variable_in rows name) ≡ Some v
        → (variable_in rows name ≡ Some v → p name ≡ true) → p name ≡ true
    by true e g ih = subst (λ (n : List ℕ). p n ≡ true) ((bytes_eq-Decides row.0 name).0 e) parts.0
    by false e g ih = ih g

all_words : list_all (λ (row : List ℕ × Variable). list_all is_word_byte row.0) variables ≡ true
all_words = refl

pub name_is_word : (name : List ℕ) (v : Variable) → variable_named name ≡ Some v → list_all is_word_byte name ≡ true
unfolding variable_named
name_is_word name v h = named_passes (list_all is_word_byte) variables name v all_words h

pub no_empty_name : variable_named [] ≡ None
unfolding variable_named
no_empty_name = refl

pub name_is_some : (name : List ℕ) (v : Variable) → variable_named name ≡ Some v → is_no_name name ≡ false
name_is_some [] v h = absurd (cc no_empty_name)
name_is_some (b ∷ bs) v h = refl
