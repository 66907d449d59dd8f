use Rattle.cli_read.proofs.AllBatches.{are-first, told-of-all}
use Rattle.cli_read.proofs.laws.found_differences_are_the_first.Goals as goal

pub returns : goal.returns
returns c = λ picks xs ys s t h g d sx ty eh eg tells. told-of-all s t h g (are-first picks xs s sx) (are-first picks ys t ty) eh eg d tells
