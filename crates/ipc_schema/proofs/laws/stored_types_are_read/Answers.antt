use Rattle.ipc_schema.specs.StoredExamples as examples
use Rattle.ipc_schema.proofs.laws.stored_types_are_read.Goals as goal

pub returns-clause-fields : goal.returns-clause-fields
returns-clause-fields c = examples.stored

pub returns-clause-names : goal.returns-clause-names
returns-clause-names c = examples.reserved

pub returns-clause-digits : goal.returns-clause-digits
returns-clause-digits c = examples.most_digits
