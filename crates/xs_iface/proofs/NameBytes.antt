-- The bytes of the names of a function.
use Rattle.std.proofs.Common.{◌≡◌, ℕ, ◌||◌, Bool, true, false, List, [], ◌∷◌, ◌++◌, codes, Option, None, Some, refl, sym, ap, ◌∙◌}
use Rattle.std.proofs.lemmas.Bool.{and_parts}
use Rattle.std.proofs.lemmas.List.Folds.{list_all-append, list_all-map}
use Rattle.std.specs.List.{list_all}
use Rattle.std.specs.Option.{unwrap_or}
use Rattle.std.specs.Prelude.{◌==◌, if◌then◌else◌}
use Rattle.xs_base.proofs.AllPass.{all-append, all-weaker}
use Rattle.xs_base.proofs.FrontRuns.{word_in_front}
use Rattle.xs_base.proofs.Qualified.{in_name, qualified_bytes}
use Rattle.xs_base.specs.ByteRuns.{belongs}
use Rattle.xs_base.specs.Scanning.{strip_prefix, is_word_byte}
use Rattle.xs_base.specs.declared.byte_runs.ByteClass.TheVariants.{Name, Word}
use Rattle.xs_iface.specs.Iface.{full_name, glue_name, perl_name, underscored}
use Rattle.xs_sections.proofs.FaultsNamed.{is_name_or_empty}

pub package_bytes : (name : List ℕ) → is_name_or_empty name ≡ true → list_all (belongs Name) name ≡ true
package_bytes [] h = refl
package_bytes (b ∷ bs) h = qualified_bytes (b ∷ bs) h

underscored_byte : (b : ℕ) → belongs Name b ≡ true → is_word_byte (if b == 58 then 95 else b) ≡ true
underscored_byte b h = by (b == 58) (is_word_byte b) refl h
  where
    by : (t w : Bool) → is_word_byte b ≡ w → (w || t) ≡ true → is_word_byte (if t then 95 else b) ≡ true
    by true w e some = refl
    by false true e some = e
    by false false e some = absurd cc

-- a name without the colons
pub underscored_bytes : (name : List ℕ) → list_all (belongs Name) name ≡ true → list_all is_word_byte (underscored name) ≡ true
underscored_bytes name h =
    list_all-map is_word_byte (λ b. if b == 58 then 95 else b) name
    ∙ all-weaker (belongs Name) (λ b. is_word_byte (if b == 58 then 95 else b)) underscored_byte name h

after_word_run : (p : ℕ → Bool) (ws xs rest : List ℕ) → list_all p xs ≡ true → strip_prefix ws xs ≡ Some rest → list_all p rest ≡ true
after_word_run p ws xs rest h e =
    (and_parts (list_all p ws) (list_all p rest) (sym (list_all-append p ws rest) ∙ ap (list_all p) (sym (word_in_front ws xs rest e)) ∙ h)).1

-- the name for Perl is a part of the name in C
pub perl_bytes : (prefix function : List ℕ) → list_all is_word_byte function ≡ true → list_all is_word_byte (perl_name prefix function) ≡ true
perl_bytes prefix function h = by (strip_prefix prefix function) refl
  where
    by : (o : Option (List ℕ)) → strip_prefix prefix function ≡ o → list_all is_word_byte (unwrap_or o function) ≡ true
    by None e = h
    by (Some rest) e = after_word_run is_word_byte prefix function rest h e

pub full_bytes : (package_name name : List ℕ) → list_all (belongs Name) package_name ≡ true → list_all is_word_byte name ≡ true
    → list_all (belongs Name) (full_name package_name name) ≡ true
full_bytes [] name p h = all-weaker is_word_byte (belongs Name) in_name name h
full_bytes (b ∷ bs) name p h =
    all-append (belongs Name) ((b ∷ bs) ++ codes "::") name (all-append (belongs Name) (b ∷ bs) (codes "::") p refl)
    (all-weaker is_word_byte (belongs Name) in_name name h)

-- what stands after `XS_` in a glue name
abbrev pub glue_tail : List ℕ → List ℕ → List ℕ
glue_tail package_name name = (underscored package_name ++ codes "_") ++ name

pub glue_is : (package_name name : List ℕ) → glue_name package_name name ≡ codes "XS_" ++ glue_tail package_name name
glue_is package_name name = refl

pub tail_bytes : (package_name name : List ℕ) → list_all (belongs Name) package_name ≡ true → list_all is_word_byte name ≡ true
    → list_all (belongs Word) (glue_tail package_name name) ≡ true
tail_bytes package_name name p h =
    all-append is_word_byte (underscored package_name ++ codes "_") name
    (all-append is_word_byte (underscored package_name) (codes "_") (underscored_bytes package_name p) refl) h
