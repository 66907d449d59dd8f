use Rattle.ipc_schema.specs.DictionaryExamples.{are_outer}
use Rattle.ipc_schema.specs.OutermostIds.{no_outermost_ids, outermost_first}
use Rattle.ipc_schema.specs.OutermostIdLaws.{outermost_ids_are_column_ids}
use Rattle.ipc_schema.proofs.laws.nested_ids_are_skipped.Goals as goal

pub returns-clause-none : goal.returns-clause-none
returns-clause-none c = no_outermost_ids

pub returns-clause-first : goal.returns-clause-first
returns-clause-first c = outermost_first

pub returns-clause-worked : goal.returns-clause-worked
returns-clause-worked c = are_outer

pub returns-clause-written : goal.returns-clause-written
returns-clause-written c = λ s. outermost_ids_are_column_ids s.fields
