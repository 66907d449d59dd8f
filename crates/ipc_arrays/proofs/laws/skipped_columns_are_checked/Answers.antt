use Rattle.ipc_arrays.specs.ProjectionExamples as examples
use Rattle.ipc_arrays.proofs.laws.skipped_columns_are_checked.Goals as goal

pub returns-clause-passed : goal.returns-clause-passed
returns-clause-passed c = examples.passed

pub returns-clause-around : goal.returns-clause-around
returns-clause-around c = examples.around
