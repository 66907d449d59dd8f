use Rattle.ipc_schema.specs.ProjectionExamples as examples
use Rattle.ipc_schema.proofs.laws.projections_are_read.Goals as goal

pub returns-clause-buffers : goal.returns-clause-buffers
returns-clause-buffers c = examples.counted

pub returns-clause-fields : goal.returns-clause-fields
returns-clause-fields c = examples.picked

pub returns-clause-unions : goal.returns-clause-unions
returns-clause-unions c = examples.of_unions

pub returns-clause-tags : goal.returns-clause-tags
returns-clause-tags c = examples.tags

pub returns-clause-over : goal.returns-clause-over
returns-clause-over c = examples.over
