use Rattle.nest_array.proofs.ColumnChecks.{columns-error, columns-fit, columns-fit-back}
use Rattle.nest_array.proofs.columns.laws.checks_of_columns.Goals as goal

pub returns-clause-fit : goal.returns-clause-fit
returns-clause-fit c = λ ns cs h. (columns-fit ns cs, columns-fit-back ns cs h)

pub returns-clause-error : goal.returns-clause-error
returns-clause-error c = columns-error
