-- Tokens of which the first is not dropped.
use Rattle.std.proofs.Common.{◌≡◌, ◌-◌, ◌∙◌, Bool, List, [], ◌∷◌, length, take, drop, refl, ap, sym, arith}
use Rattle.std.proofs.lemmas.List.{take_all}
use Rattle.xs_base.specs.Readers.{tail}
use Rattle.xs_cinput.specs.TokenInput.{is_settled, kept}
use Rattle.xs_ctok.specs.declared.token.Token.{Token}

pub settled_tail : (whole : Bool) (ts : List Token) → is_settled whole ts → kept whole (take (length ts - 1) (drop 1 ts)) ≡ tail (kept whole ts)
settled_tail whole [] s = refl
settled_tail whole (t ∷ ts) s =
    ap (kept whole) (take_all (length (t ∷ ts) - 1) ts (omega arith))
    ∙ sym (ap (λ (us : List Token). tail us) s)
