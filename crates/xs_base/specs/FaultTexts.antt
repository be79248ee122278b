-- The texts of the codes of faults.
use Rattle.std.specs.Prelude.{ℕ, ◌==◌, if◌then◌else◌, List, [], ◌∷◌, map, Option, None, Some}
use Rattle.xs_base.specs.declared.fault_codes.TheConstants.{FAULT_TEXTS}

-- each code with its text
abbrev pub texts : List (ℕ × List ℕ)
texts = map (λ row. (row.0, row.1.now)) FAULT_TEXTS

abbrev pub codes_listed : List ℕ
codes_listed = map (λ row. row.0) texts

abbrev pub text_in : List (ℕ × List ℕ) → ℕ → Option (List ℕ)
text_in [] code = None
text_in (row ∷ rows) code = if row.0 == code then Some row.1 else text_in rows code

-- the text that is listed for a code
abbrev pub text_of : ℕ → Option (List ℕ)
text_of = text_in texts
