-- Texts that expand by the rules are templates, and those that stop are none.
use Rattle.std.proofs.Common.{◌≡◌, ℕ, true, false, List, [], ◌∷◌, ◌++◌, Some, refl, sym, ap, subst, ◌∙◌, append_assoc}
use Rattle.std.proofs.lemmas.Grind.{flat_map-append}
use Rattle.std.proofs.lemmas.List.{append-nil}
use Rattle.xs_base.specs.Readers.{head_is}
use Rattle.xs_base.specs.Scanning.{is_word_byte}
use Rattle.xs_template.proofs.CutSteps.{bad, backslash_lost, brace_opens, braced_ends, braced_fails, braced_run, byte_kept, name_ends, name_fails, name_run, named, outcome, plain}
use Rattle.xs_template.proofs.VariableNames.{name_is_word}
use Rattle.xs_template.specs.TemplatePieces.{expanded, piece_text, value_of}
use Rattle.xs_template.specs.TemplateSteps.{ended, is_refused, with_text}
use Rattle.xs_template.specs.TemplateText.{Expands, done, keeps, loses, replaces, replaces_braced, Stops, no_variable, no_braced, after_kept, after_lost, after_name, after_braced}
use Rattle.xs_template.specs.Variables.{variable_named}
use Rattle.xs_template.specs.declared.cutting.Cutting.{Cutting}
use Rattle.xs_template.specs.declared.template.Names.{Names}
use Rattle.xs_template.specs.declared.template.Piece.{Piece}
use Rattle.xs_template.specs.declared.template.Piece.TheVariants.{Text, Named}
use Rattle.xs_template.specs.declared.variables.Variable.{Variable}

-- ---- the equations of the rules

pub name_replaced : (ps : List Piece) (t n name text : List ℕ) (v : Variable) → variable_named name ≡ Some v → head_is is_word_byte text ≡ false
    → outcome (plain ps t n) (36 ∷ (name ++ text)) ≡ outcome (named ps t v) text
name_replaced ps t n name text v is whole = ap ended (name_run ps t [] name text (name_is_word name v is)) ∙ name_ends ps t name text v is whole

pub braced_replaced : (ps : List Piece) (t n name text : List ℕ) (v : Variable) → variable_named name ≡ Some v
    → outcome (plain ps t n) (36 ∷ 123 ∷ (name ++ 125 ∷ text)) ≡ outcome (named ps t v) text
braced_replaced ps t n name text v is =
    ap (λ (s : Cutting). outcome s (name ++ 125 ∷ text)) (brace_opens ps t)
    ∙ ap ended (braced_run ps t [] name (125 ∷ text) (name_is_word name v is))
    ∙ braced_ends ps t name text v is

-- ---- texts that expand

-- The cutting ends well, and its pieces expand to this.
pub record EndsWell (names : Names) (s : Cutting) (out : List ℕ) : Type 0 where
  pub taken : is_refused s.mode ≡ false
  pub is : expanded names (with_text s.text s.pieces) ≡ out

well_along : {names : Names} {s z : Cutting} {out more : List ℕ} → s ≡ z → out ≡ more → EndsWell names z out → EndsWell names s more
well_along {names} {s} {z} {out} {more} e same w =
    subst (λ (o : List ℕ). EndsWell names s o) same (subst (λ (x : Cutting). EndsWell names x out) (sym e) w)

text_added : (names : Names) (t : List ℕ) (ps : List Piece) → expanded names (with_text t ps) ≡ expanded names ps ++ t
text_added names [] ps = sym (append-nil (expanded names ps))
text_added names (b ∷ bs) ps =
    flat_map-append (piece_text names) ps (Text (b ∷ bs) ∷ []) ∙ ap (λ (l : List ℕ). expanded names ps ++ l) (append-nil (b ∷ bs))

value_added : (names : Names) (t : List ℕ) (ps : List Piece) (v : Variable) (out : List ℕ)
    → (expanded names (with_text t ps ++ Named v ∷ []) ++ []) ++ out ≡ (expanded names ps ++ t) ++ (value_of names v ++ out)
value_added names t ps v out =
    ap (λ (l : List ℕ). (l ++ []) ++ out) (flat_map-append (piece_text names) (with_text t ps) (Named v ∷ []))
    ∙ ap (λ (l : List ℕ). ((l ++ (value_of names v ++ [])) ++ []) ++ out) (text_added names t ps)
    ∙ simp (append_assoc, append-nil)

pub expands_well : (names : Names) (text out : List ℕ) → Expands names text out → (ps : List Piece) (t n : List ℕ)
    → EndsWell names (outcome (plain ps t n) text) ((expanded names ps ++ t) ++ out)
expands_well names text out done ps t n =
    record { taken = refl; is = text_added names t ps ∙ sym (append-nil (expanded names ps ++ t)) }
expands_well names text out (keeps {text = rest} {out = more} b h d) ps t n =
    well_along (byte_kept ps t n rest b h) (simp append_assoc) (expands_well names rest more d ps (t ++ b ∷ []) n)
expands_well names text out (loses {text = rest} {out = more} b h d) ps t n =
    well_along (backslash_lost ps t n rest b h) (simp append_assoc) (expands_well names rest more d ps (t ++ b ∷ []) n)
expands_well names text out (replaces {text = rest} {out = more} name v is whole d) ps t n =
    well_along (name_replaced ps t n name rest v is whole) (value_added names t ps v more)
    (expands_well names rest more d (with_text t ps ++ Named v ∷ []) [] [])
expands_well names text out (replaces_braced {text = rest} {out = more} name v is d) ps t n =
    well_along (braced_replaced ps t n name rest v is) (value_added names t ps v more)
    (expands_well names rest more d (with_text t ps ++ Named v ∷ []) [] [])

-- ---- texts that stop

-- The cutting is refused for this word.
pub record EndsBad (s : Cutting) (word : List ℕ) : Type 0 where
  pub refused : is_refused s.mode ≡ true
  pub is : s.name ≡ word

bad_along : {s z : Cutting} {word : List ℕ} → s ≡ z → EndsBad z word → EndsBad s word
bad_along {s} {z} {word} e w = subst (λ (x : Cutting). EndsBad x word) (sym e) w

is_bad : (ps : List Piece) (t w : List ℕ) → EndsBad (bad ps t w) w
is_bad ps t w = record { refused = refl; is = refl }

pub stops_bad : (text word : List ℕ) → Stops text word → (ps : List Piece) (t n : List ℕ) → EndsBad (outcome (plain ps t n) text) word
stops_bad text word (no_variable name rest all whole brace none) ps t n =
    bad_along (ap ended (name_run ps t [] name rest all) ∙ name_fails ps t name rest none whole brace) (is_bad ps t (36 ∷ name))
stops_bad text word (no_braced {text = rest} none) ps t n =
    bad_along (ap (λ (s : Cutting). outcome s rest) (brace_opens ps t) ∙ braced_fails ps t [] rest none) (is_bad ps t (36 ∷ 123 ∷ []))
stops_bad text word (after_kept {text = rest} b h d) ps t n = bad_along (byte_kept ps t n rest b h) (stops_bad rest word d ps (t ++ b ∷ []) n)
stops_bad text word (after_lost {text = rest} b h d) ps t n = bad_along (backslash_lost ps t n rest b h) (stops_bad rest word d ps (t ++ b ∷ []) n)
stops_bad text word (after_name {text = rest} name v is whole d) ps t n =
    bad_along (name_replaced ps t n name rest v is whole) (stops_bad rest word d (with_text t ps ++ Named v ∷ []) [] [])
stops_bad text word (after_braced {text = rest} name v is d) ps t n =
    bad_along (braced_replaced ps t n name rest v is) (stops_bad rest word d (with_text t ps ++ Named v ∷ []) [] [])
