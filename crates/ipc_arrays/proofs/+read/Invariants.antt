use Rattle.std.proofs.Common.{◌≡◌, ◌+◌, ◌*◌, drop}
use Rattle.nest_memory.specs.TypeOf.{type_of, field_of, field_list_of}
use Rattle.nest_model.specs.NullKinds.{type_weight, field_weight, fields_weight}
use Rattle.nest_array.specs.Seen.{layouts_of}
use Rattle.ipc_arrays.specs.Decoding.{rest_of}
use Rattle.ipc_arrays.specs.NestedDecoding.{children_decoding}
use Rattle.ipc_arrays.proofs.Fields.{with_children}
use Rattle.ipc_arrays.proofs.+read.Given as goal

abbrev pub decreases-reading::read_array : goal.decreases-reading::read_array
decreases-reading::read_array l = 3 * type_weight (type_of l.stored.now)

abbrev pub decreases-reading::read_item : goal.decreases-reading::read_item
decreases-reading::read_item l = 3 * field_weight (field_of l.field.now) + 1

abbrev pub decreases-reading::read_items : goal.decreases-reading::read_items
decreases-reading::read_items l = 3 * fields_weight (field_list_of l.fields.now.items) + 1

abbrev pub decreases-list::read_list : goal.decreases-list::read_list
decreases-list::read_list l = 3 * field_weight (field_of l.field.now) + 2

abbrev pub decreases-list::read_large_list : goal.decreases-list::read_large_list
decreases-list::read_large_list l = 3 * field_weight (field_of l.field.now) + 2

abbrev pub decreases-map::read_map : goal.decreases-map::read_map
decreases-map::read_map l = 3 * field_weight (field_of l.field.now) + 2

abbrev pub decreases-fixed_size_list::read_fixed_size_list : goal.decreases-fixed_size_list::read_fixed_size_list
decreases-fixed_size_list::read_fixed_size_list l = 3 * field_weight (field_of l.field.now) + 2

abbrev pub decreases-struct_::read_struct : goal.decreases-struct_::read_struct
decreases-struct_::read_struct l = 3 * fields_weight (field_list_of l.fields.now.items) + 2

abbrev pub decreases-union::read_union : goal.decreases-union::read_union
decreases-union::read_union l = 3 * fields_weight (field_list_of l.fields.now.items) + 2

abbrev pub invariant-reading::read_items-loop-field : goal.invariant-reading::read_items-loop-field
invariant-reading::read_items-loop-field l =
    with_children (layouts_of l.children.items) (children_decoding (field_list_of (drop l.field-index l.field-items)) l.expected l.body (rest_of l.rest)) ≡ children_decoding (field_list_of l.field-items) l.expected l.body (rest_of l.initial.cursor)
