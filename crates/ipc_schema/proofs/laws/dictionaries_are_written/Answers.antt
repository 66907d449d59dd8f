use Rattle.ipc_schema.specs.DictionaryWriteExamples.{are_written, are_numbered, are_refused}
use Rattle.ipc_schema.proofs.laws.dictionaries_are_written.Goals as goal

pub returns-clause-bytes : goal.returns-clause-bytes
returns-clause-bytes c = are_written

pub returns-clause-ids : goal.returns-clause-ids
returns-clause-ids c = are_numbered

pub returns-clause-reasons : goal.returns-clause-reasons
returns-clause-reasons c = are_refused
