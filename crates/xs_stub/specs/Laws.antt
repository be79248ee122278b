-- Laws of the glue text, for all modules.
use Rattle.std.specs.List.{AllByRecursion}
use Rattle.std.specs.Prelude.{◌≡◌, true}
use Rattle.xs_iface.specs.PassedLines.{is_passed_line}
use Rattle.xs_iface.specs.SumForm.{IsSumModule}
use Rattle.xs_iface.specs.declared.xsub.Module.{Module}
use Rattle.xs_stub.specs.Intended.{ReadsBack}

-- The written text of a module whose XSUBs are sums, read again, is the intended tree but for
-- lines. Its C part has only lines that are passed over.
abbrev pub ReadBackLaw : Type 0
ReadBackLaw = (m : Module) → IsSumModule m
    → AllByRecursion (λ line. is_passed_line line.text ≡ true) m.c_part → ReadsBack m
