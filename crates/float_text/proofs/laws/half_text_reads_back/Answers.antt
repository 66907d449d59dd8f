use Rattle.float_text.proofs.Halves.{half_reads_back}
use Rattle.float_text.proofs.laws.half_text_reads_back.Goals as goal

pub returns : goal.returns
returns c bits h = half_reads_back bits h
