use Rattle.ipc_flatbuf.specs.RootExamples.{version_3, no_version, tensor, no_header, negative_body, short_metadata, table_outside, no_budget}
use Rattle.ipc_flatbuf.proofs.message.laws.invalid_roots_fail.Goals as goal

pub returns-clause-version_3 : goal.returns-clause-version_3
returns-clause-version_3 c = version_3

pub returns-clause-no_version : goal.returns-clause-no_version
returns-clause-no_version c = no_version

pub returns-clause-tensor : goal.returns-clause-tensor
returns-clause-tensor c = tensor

pub returns-clause-no_header : goal.returns-clause-no_header
returns-clause-no_header c = no_header

pub returns-clause-body : goal.returns-clause-body
returns-clause-body c = negative_body

pub returns-clause-short : goal.returns-clause-short
returns-clause-short c = short_metadata

pub returns-clause-outside : goal.returns-clause-outside
returns-clause-outside c = table_outside

pub returns-clause-budget : goal.returns-clause-budget
returns-clause-budget c = no_budget
