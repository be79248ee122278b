use Rattle.std.proofs.Common.{sym, arith}
use Rattle.std.proofs.lemmas.List.{take_all}
use Rattle.xs_script.proofs.text.first_bytes.Goals as goal

pub returns-else-text-gt64 : goal.returns-else-text-gt64
returns-else-text-gt64 c = sym (take_all 64 c.args.text.now (omega arith))
