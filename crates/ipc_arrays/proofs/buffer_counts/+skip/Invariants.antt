use Rattle.std.proofs.Common.{◌≡◌, ◌+◌, ◌*◌, drop}
use Rattle.nest_memory.specs.TypeOf.{type_of, field_of, field_list_of}
use Rattle.nest_model.specs.NullKinds.{type_weight, field_weight, fields_weight}
use Rattle.ipc_arrays.specs.BufferCounts.{children_skipped}
use Rattle.ipc_arrays.proofs.buffer_counts.+skip.Given as goal

abbrev pub decreases-skip_array : goal.decreases-skip_array
decreases-skip_array l = 3 * type_weight (type_of l.data_type.now)

abbrev pub decreases-skip_child : goal.decreases-skip_child
decreases-skip_child l = 3 * field_weight (field_of l.field.now) + 1

abbrev pub decreases-skip_children : goal.decreases-skip_children
decreases-skip_children l = 3 * fields_weight (field_list_of l.fields.now.items) + 1

abbrev pub invariant-skip_children-loop-field : goal.invariant-skip_children-loop-field
invariant-skip_children-loop-field l =
    children_skipped 0 (field_list_of (drop l.field-index l.field-items)) l.rest ≡ children_skipped l.own (field_list_of l.field-items) l.buffers
