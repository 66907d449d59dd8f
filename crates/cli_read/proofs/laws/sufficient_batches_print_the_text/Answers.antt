use Rattle.cli_read.proofs.FirstLaws.{enough-held, in-file, in-stream}
use Rattle.cli_read.proofs.laws.sufficient_batches_print_the_text.Goals as goal

pub returns-clause-stream : goal.returns-clause-stream
returns-clause-stream c = λ q picks bytes k h e has. enough-held q k _ _ h (in-stream picks bytes k) e has

pub returns-clause-file : goal.returns-clause-file
returns-clause-file c = λ q picks bytes k h e has. enough-held q k _ _ h (in-file picks bytes k) e has
