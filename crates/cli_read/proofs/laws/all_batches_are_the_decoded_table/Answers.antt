use Rattle.cli_read.proofs.FirstLaws.{file-is-held, stream-is-held}
use Rattle.cli_read.proofs.laws.all_batches_are_the_decoded_table.Goals as goal

pub returns-clause-stream : goal.returns-clause-stream
returns-clause-stream c = stream-is-held

pub returns-clause-file : goal.returns-clause-file
returns-clause-file c = file-is-held
