use Rattle.cli_read.proofs.FirstLaws.{in-file, in-stream}
use Rattle.cli_read.proofs.laws.prefixes_are_the_first_batches.Goals as goal

pub returns-clause-stream : goal.returns-clause-stream
returns-clause-stream c = λ picks bytes k h e. (in-stream picks bytes k).some h e

pub returns-clause-file : goal.returns-clause-file
returns-clause-file c = λ picks bytes k h e. (in-file picks bytes k).some h e
