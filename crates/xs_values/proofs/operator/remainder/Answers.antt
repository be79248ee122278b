use Rattle.std.proofs.Common.{◌≡◌, pos, sym, ap, ◌∙◌, subst, rules}
use Rattle.std.specs.Int.RustNames.{int_div, int_rem}
use Rattle.xs_values.proofs.MachineWords.{IsWord, of_both, quotient_through, rest_through, through}
use Rattle.xs_values.proofs.Ranges.{rest_given, rest_in_range}
use Rattle.xs_values.specs.Numbers.{IsInRange}
use Rattle.xs_values.proofs.operator.remainder.Goals as goal

pub divided-requires : goal.divided-requires
divided-requires c =
    let word : IsWord c.args.x = record { low = c.requires.low; high = c.requires.high } in
    let rest = of_both int_rem c.args.x c.args.y c.rest.result c.ranges.x c.ranges.y c.rest.ensures in
    λ _. subst (IsInRange c.args.kind) (sym (ap through rest ∙ rest_through c.args.x c.args.y word))
    (rest_in_range c.args.kind c.args.x c.args.y c.requires.held)

pub returns : goal.returns
returns c =
    let word : IsWord c.args.x = record { low = c.requires.low; high = c.requires.high } in
    let nonzero : c.args.y ≡ pos 0 → ⊥ = search rules in
    let quotient = of_both int_div c.args.x c.args.y c.quotient.result c.ranges.x c.ranges.y c.quotient.ensures in
    let rest = of_both int_rem c.args.x c.args.y c.rest.result c.ranges.x c.ranges.y c.rest.ensures in
    rest_given c.args.kind c.args.x c.args.y (through c.quotient.result) (through c.rest.result) c.divided.result nonzero
    (ap through quotient ∙ quotient_through c.args.x c.args.y word)
    (ap through rest ∙ rest_through c.args.x c.args.y word)
    c.divided.ensures
