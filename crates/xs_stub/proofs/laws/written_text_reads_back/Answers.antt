use Rattle.xs_stub.proofs.ReadBack.{reads_back}
use Rattle.xs_stub.proofs.laws.written_text_reads_back.Goals as goal

pub returns : goal.returns
returns c = reads_back
