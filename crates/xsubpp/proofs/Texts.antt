-- The test of std for a text, as a test that computes.
use Rattle.std.proofs.Common.{◌≡◌, ℕ, Bool, true, false, List, sym, refl}
use Rattle.std.proofs.lemmas.Str.{IsUtf8-from_is_utf8, is_utf8-from_IsUtf8}
use Rattle.std.specs.Str.{IsUtf8, is_utf8}

not_valid : (bytes : List ℕ) (b : Bool) → is_utf8 bytes ≡ b → ¬ (IsUtf8 bytes) → false ≡ b
not_valid bytes true is no_text = absurd (no_text (IsUtf8-from_is_utf8 bytes is))
not_valid bytes false is no_text = refl

pub is_valid : (bytes : List ℕ) → IsUtf8 bytes → true ≡ is_utf8 bytes
is_valid bytes text = sym (is_utf8-from_IsUtf8 bytes text)

pub is_invalid : (bytes : List ℕ) → ¬ (IsUtf8 bytes) → false ≡ is_utf8 bytes
is_invalid bytes no_text = not_valid bytes (is_utf8 bytes) refl no_text
