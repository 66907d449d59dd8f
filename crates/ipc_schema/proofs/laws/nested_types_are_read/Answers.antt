use Rattle.ipc_schema.specs.NestedExamples as examples
use Rattle.ipc_schema.proofs.laws.nested_types_are_read.Goals as goal

pub returns-clause-fields : goal.returns-clause-fields
returns-clause-fields c = examples.nested

pub returns-clause-maps : goal.returns-clause-maps
returns-clause-maps c = examples.maps

pub returns-clause-unions : goal.returns-clause-unions
returns-clause-unions c = examples.unions
