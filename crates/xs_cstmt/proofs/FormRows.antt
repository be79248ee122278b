-- What stands beside a word in a table, seen by a map.
use Rattle.std.proofs.Common.{◌≡◌, ◌∙◌, ℕ, Bool, true, false, if◌then◌else◌, List, [], ◌∷◌, Option, Some, map, option_map, refl, ap}
use Rattle.std.specs.Borrow.{Bor}
use Rattle.std.specs.List.{find}
use Rattle.std.specs.Str.{bytes_eq}
use Rattle.xs_cinput.specs.Operators.{listed}
use Rattle.xs_cinput.specs.TokenInput.{is_word_kind}
use Rattle.xs_cstmt.specs.PerlForms.{row_in, slots_of}
use Rattle.xs_cstmt.specs.declared.forms.Form.{Form}
use Rattle.xs_cstmt.specs.declared.forms.Slot.{Slot}
use Rattle.xs_ctok.specs.declared.token.Token.{Token}

by_row : {V W : Type 0} (h : V → W) (row : List ℕ × V) (x : Option (List ℕ × V)) (y : Option (List ℕ × W)) (b : Bool)
    → option_map h (option_map (λ (r : List ℕ × V). r.1) x) ≡ option_map (λ (r : List ℕ × W). r.1) y
    → option_map h (option_map (λ (r : List ℕ × V). r.1) (if b then Some row else x))
    ≡ option_map (λ (r : List ℕ × W). r.1) (if b then Some (row.0, h row.1) else y)
by_row h row x y true e = refl
by_row h row x y false e = e

pub listed_seen : {V W : Type 0} (h : V → W) (rows : List (Bor (List ℕ) × V)) (word : List ℕ)
    → option_map h (listed (map (λ (row : Bor (List ℕ) × V). (row.0.now, row.1)) rows) word)
    ≡ listed (map (λ (row : Bor (List ℕ) × V). (row.0.now, h row.1)) rows) word
listed_seen h [] word = refl
listed_seen {V} {W} h (row ∷ rows) word =
    by_row h (row.0.now, row.1) (find (λ (r : List ℕ × V). bytes_eq r.0 word) (map (λ (row : Bor (List ℕ) × V). (row.0.now, row.1)) rows))
    (find (λ (r : List ℕ × W). bytes_eq r.0 word) (map (λ (row : Bor (List ℕ) × V). (row.0.now, h row.1)) rows))
    (bytes_eq row.0.now word) (listed_seen h rows word)

-- a form, and what stands after its first word
abbrev pub Row : Type 0
Row = Form × Bor (List (Slot × Bor (List ℕ)))

pub row_listed : (rows : List (Bor (List ℕ) × Row)) (t : Token) (text : List ℕ) (r : Option Row) → is_word_kind t.kind ≡ true → text ≡ t.text
    → r ≡ listed (map (λ (row : Bor (List ℕ) × Row). (row.0.now, row.1)) rows) text
    → option_map (λ (row : Row). (row.0, slots_of row.1.now)) r
    ≡ row_in (map (λ (row : Bor (List ℕ) × Row). (row.0.now, (row.1.0, slots_of row.1.1.now))) rows) t
row_listed rows t text r w e f =
    let table = map (λ (row : Bor (List ℕ) × Row). (row.0.now, (row.1.0, slots_of row.1.1.now))) rows in
    let word : listed table text ≡ row_in table t = rw (w, e) refl in
    ap (option_map (λ (row : Row). (row.0, slots_of row.1.now))) f
    ∙ (listed_seen (λ (row : Row). (row.0, slots_of row.1.now)) rows text ∙ word)
