use Rattle.ipc_schema.specs.ExtensionExamples as examples
use Rattle.ipc_schema.proofs.laws.extensions_are_read.Goals as goal

pub returns-clause-fields : goal.returns-clause-fields
returns-clause-fields c = examples.extended

pub returns-clause-plain : goal.returns-clause-plain
returns-clause-plain c = examples.plain
