-- Punctuators, by the tables of the program.
use Rattle.std.specs.Prelude.{ℕ, ◌==◌, if◌then◌else◌, Bool, List, map, take}
use Rattle.xs_base.specs.declared.fault_codes.TheConstants.{STRAY_BYTE}
use Rattle.xs_base.specs.Names.{is_among}
use Rattle.xs_ctok.specs.declared.front.Front.{Front}
use Rattle.xs_ctok.specs.declared.front.Front.TheVariants as front
use Rattle.xs_ctok.specs.declared.punctuators.TheConstants.{DOUBLES, SINGLES, TRIPLES}
use Rattle.xs_ctok.specs.declared.token.TokKind.TheVariants as kind

-- a punctuator of three bytes, of two, and of one (C11 6.4.6)
abbrev pub is_triple : List ℕ → Bool
is_triple text = is_among (map (λ p. p.now) TRIPLES) text

abbrev pub is_double : List ℕ → Bool
is_double text = is_among (map (λ p. p.now) DOUBLES) text

abbrev pub is_single : List ℕ → Bool
is_single text = is_among (map (λ p. p.now) SINGLES) text

-- how many bytes the longest punctuator in front has, and 0 where there is none
unfoldable pub punctuator_len : List ℕ → ℕ
punctuator_len text =
    if is_triple (take 3 text) then 3
    else if is_double (take 2 text) then 2
    else if is_single (take 1 text) then 1
    else 0

abbrev pub punctuator_of : ℕ → Front
punctuator_of len = if len == 0 then front.Refused STRAY_BYTE else front.Piece kind.Punct len

abbrev pub punctuator_front : List ℕ → Front
punctuator_front text = punctuator_of (punctuator_len text)
