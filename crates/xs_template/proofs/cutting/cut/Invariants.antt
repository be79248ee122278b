use Rattle.std.proofs.Common.{◌≡◌, drop}
use Rattle.xs_template.specs.TemplateSteps.{begun, cut_from}
use Rattle.xs_template.proofs.cutting.cut.Given as goal

-- what was cut so far, and the bytes that are left
abbrev pub invariant-loop-byte : goal.invariant-loop-byte
invariant-loop-byte l = cut_from begun l.text ≡ cut_from l.cutting (drop l.byte-index l.text)
