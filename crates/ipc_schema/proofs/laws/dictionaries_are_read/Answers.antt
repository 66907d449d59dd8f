use Rattle.ipc_schema.specs.DictionaryExamples as examples
use Rattle.ipc_schema.proofs.laws.dictionaries_are_read.Goals as goal

pub returns-clause-fields : goal.returns-clause-fields
returns-clause-fields c = examples.are_keyed

pub returns-clause-ids : goal.returns-clause-ids
returns-clause-ids c = examples.are_of_one_id

pub returns-clause-looks : goal.returns-clause-looks
returns-clause-looks c = examples.are_looked_at
