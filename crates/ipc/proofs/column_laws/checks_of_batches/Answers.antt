use Rattle.ipc.proofs.NamedColumns.{batch-error, batch-fits, batch-fits-back}
use Rattle.ipc.proofs.column_laws.checks_of_batches.Goals as goal

pub returns-clause-fit : goal.returns-clause-fit
returns-clause-fit c = λ ns cs p. (batch-fits ns cs p, batch-fits-back ns cs)

pub returns-clause-error : goal.returns-clause-error
returns-clause-error c = batch-error
