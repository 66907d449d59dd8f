use Rattle.cli_rows.proofs.OneDifference.{one-difference}
use Rattle.cli_rows.proofs.laws.first_table_difference_is_unique.Goals as goal

pub returns : goal.returns
returns c = λ s t d e. one-difference c.first_difference_is_unique.ensures s t d e
