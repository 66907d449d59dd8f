use Rattle.cli_rows.proofs.Resolved.{resolved-error, resolved-rows, rows-typed}
use Rattle.cli_rows.proofs.laws.resolved_selections_select_the_same.Goals as goal

pub returns-clause-error : goal.returns-clause-error
returns-clause-error c = λ fs d. resolved-error fs d

pub returns-clause-rows : goal.returns-clause-rows
returns-clause-rows c = λ fs d rows h. resolved-rows fs d rows (rows-typed fs rows h)
