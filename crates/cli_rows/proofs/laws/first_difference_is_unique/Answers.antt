use Rattle.cli_rows.proofs.OnlyOne.{one-place}
use Rattle.cli_rows.proofs.laws.first_difference_is_unique.Goals as goal

pub returns : goal.returns
returns c = λ xs ys d e. one-place xs ys d e
