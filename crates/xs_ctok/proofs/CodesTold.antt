-- The codes of faults.
use Rattle.std.proofs.Common.{◌≡◌, ℕ, ◌+◌, ◌^◌, ◌<◌, ◌≤◌, Bool, true, false, List, [], ◌∷◌, ◌++◌, length, refl, ap, sym, ◌∙◌, append-nil, arith}
use Rattle.std.proofs.lemmas.Bool.Decides.{nat_tests}
use Rattle.std.specs.List.{list_all}
use Rattle.std.specs.Prelude.{nat_lt}
use Rattle.xs_base.specs.Readers.{head_is}
use Rattle.xs_base.specs.Scanning.{is_ascii_digit}
use Rattle.xs_base.specs.declared.fault_codes.TheConstants.{FLOATING_POINT_IN_C, LITERAL_TOO_WIDE, OPEN_COMMENT_OR_TEXT, STRAY_BYTE}
use Rattle.xs_base.proofs.FrontRuns.{front_seam, head_belongs}
use Rattle.xs_values.specs.declared.literal.Base.{Base}
use Rattle.xs_ctok.specs.Fronts.{front_of}
use Rattle.xs_ctok.specs.Laws.{CodesLaw}
use Rattle.xs_ctok.specs.Numerals.{based_front, digits_in, is_digit_of, is_floating, number_front, value_of}
use Rattle.xs_ctok.specs.QuotedTexts.{text_front}
use Rattle.xs_ctok.specs.TokenSpelling.{IsPrefix, StandFor}
use Rattle.xs_ctok.specs.declared.front.Front.TheVariants as front
use Rattle.xs_ctok.specs.declared.numerals.NumberFront.TheVariants as number
use Rattle.xs_ctok.proofs.EscapesSpelled.{text_passes}
use Rattle.xs_ctok.proofs.FrontsSpelled.{front_digit, front_quote}
use Rattle.xs_ctok.proofs.IntegersSpelled.{prefix_begins, prefix_done}

number_refused : (fresh : Bool) (text : List ℕ) (code : ℕ) → head_is is_ascii_digit text ≡ true → number_front text ≡ number.Refused code
    → front_of fresh text ≡ front.Refused code
number_refused fresh [] code h e = absurd cc
number_refused fresh (b ∷ bs) code h e = front_digit fresh b bs h ∙ rw e refl

not_less : (m n : ℕ) → n ≤ m → nat_lt m n ≡ false
not_less m n h = grind (arith, nat_tests)

wide : (fresh : Bool) (b : Base) (before digits rest : List ℕ) → IsPrefix b before (digits ++ rest) → list_all (is_digit_of b) digits ≡ true → 0 < length digits
    → head_is (is_digit_of b) rest ≡ false → is_floating b (digits ++ rest) ≡ false → 2 ^ 64 ≤ value_of b digits
    → front_of fresh (before ++ (digits ++ rest)) ≡ front.Refused LITERAL_TOO_WIDE
wide fresh b before digits rest prefix all some stop point large =
    let digit = head_belongs (digits_in b) digits rest all some in
    let told : based_front b (digits ++ rest) (length before) ≡ number.Refused LITERAL_TOO_WIDE =
    rw (point, front_seam (digits_in b) digits rest all stop, not_less (value_of b digits) (2 ^ 64) large) refl in
    number_refused fresh (before ++ (digits ++ rest)) LITERAL_TOO_WIDE (prefix_begins prefix digit) (prefix_done prefix digit ∙ told)

floating : (fresh : Bool) (b : Base) (before text : List ℕ) → IsPrefix b before text → head_is (is_digit_of b) text ≡ true → is_floating b text ≡ true
    → front_of fresh (before ++ text) ≡ front.Refused FLOATING_POINT_IN_C
floating fresh b before text prefix digit point =
    let told : based_front b text (length before) ≡ number.Refused FLOATING_POINT_IN_C = rw point refl in
    number_refused fresh (before ++ text) FLOATING_POINT_IN_C (prefix_begins prefix digit) (prefix_done prefix digit ∙ told)

open_text : (fresh : Bool) (s cs : List ℕ) → StandFor [] s cs → front_of fresh (34 ∷ s) ≡ front.Refused OPEN_COMMENT_OR_TEXT
open_text fresh s cs x = front_quote fresh s ∙ ap (text_front [] 1 0) (sym (append-nil s)) ∙ text_passes x [] 1

escaped : (fresh : Bool) (s cs e : List ℕ) → StandFor (92 ∷ e) s cs → front_of fresh (34 ∷ (s ++ 92 ∷ e)) ≡ text_front cs (1 + length s) 0 (92 ∷ e)
escaped fresh s cs e x = front_quote fresh (s ++ 92 ∷ e) ∙ text_passes x [] 1

inside : (more : List ℕ) → front_of false (35 ∷ more) ≡ front.Refused STRAY_BYTE
unfolding front_of
inside more = refl

pub codes_law : CodesLaw
codes_law =
    record {
      wide = wide;
      floating = floating;
      open_text = open_text;
      open_escape = λ fresh s cs e x told. escaped fresh s cs e x ∙ rw told refl;
      other_escape = λ fresh s cs e x told. escaped fresh s cs e x ∙ rw told refl;
      inside = inside;
    }
