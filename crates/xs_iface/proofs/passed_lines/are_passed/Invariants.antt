use Rattle.std.proofs.Common.{◌≡◌, drop}
use Rattle.std.specs.List.{list_all}
use Rattle.xs_iface.specs.PassedLines.{is_passed_token}
use Rattle.xs_iface.proofs.passed_lines.are_passed.Given as goal

-- no token before this one is refused
abbrev pub invariant-loop-token : goal.invariant-loop-token
invariant-loop-token l = list_all is_passed_token l.all ≡ list_all is_passed_token (drop l.token-index l.all)
