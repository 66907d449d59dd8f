use Rattle.ipc_schema.specs.SchemaErrorExamples.{no_children, null_with_child, list_without_child, too_deep, two_ids, many_fields}
use Rattle.ipc_schema.proofs.laws.invalid_fields_fail.Goals as goal

pub returns-clause-no_children : goal.returns-clause-no_children
returns-clause-no_children c = no_children

pub returns-clause-null_with_child : goal.returns-clause-null_with_child
returns-clause-null_with_child c = null_with_child

pub returns-clause-list_without_child : goal.returns-clause-list_without_child
returns-clause-list_without_child c = list_without_child

pub returns-clause-too_deep : goal.returns-clause-too_deep
returns-clause-too_deep c = too_deep

pub returns-clause-two_ids : goal.returns-clause-two_ids
returns-clause-two_ids c = two_ids

pub returns-clause-many_fields : goal.returns-clause-many_fields
returns-clause-many_fields c = many_fields
