use Rattle.ipc_schema.specs.FieldSupportExamples.{are_unsupported_tags, are_found, are_named, is_support_read}
use Rattle.ipc_schema.proofs.laws.unsupported_fields_are_found.Goals as goal

pub returns-clause-numbers : goal.returns-clause-numbers
returns-clause-numbers c = are_unsupported_tags

pub returns-clause-found : goal.returns-clause-found
returns-clause-found c = are_found

pub returns-clause-read : goal.returns-clause-read
returns-clause-read c = is_support_read

pub returns-clause-named : goal.returns-clause-named
returns-clause-named c = are_named
