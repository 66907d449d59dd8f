use Rattle.std.proofs.Common.{◌≡◌, ◌++◌, drop}
use Rattle.nest_memory.specs.TypeOf.{field_list_of}
use Rattle.ipc_schema.specs.StoredArrays.{arrays_of_fields}
use Rattle.ipc_schema.proofs.stored_types.+arrays.Given as goal

abbrev pub invariant-push_each-loop-field : goal.invariant-push_each-loop-field
invariant-push_each-loop-field l = l.arrays.items ++ arrays_of_fields (field_list_of (drop l.field-index l.field-items)) ≡ l.initial.arrays.items ++ arrays_of_fields (field_list_of l.initial.fields.items)
