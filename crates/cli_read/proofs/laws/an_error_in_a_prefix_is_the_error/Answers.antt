use Rattle.cli_read.proofs.FirstLaws.{in-file, in-stream}
use Rattle.cli_read.proofs.laws.an_error_in_a_prefix_is_the_error.Goals as goal

pub returns-clause-stream : goal.returns-clause-stream
returns-clause-stream c = λ picks bytes k error e. (in-stream picks bytes k).error error e

pub returns-clause-file : goal.returns-clause-file
returns-clause-file c = λ picks bytes k error e. (in-file picks bytes k).error error e
