use Rattle.float_text.proofs.TextReads.{reads-back}
use Rattle.float_text.proofs.laws.text_reads_back.Goals as goal

pub returns : goal.returns
returns c f bits h = reads-back f bits h
