use Rattle.std.proofs.Common.{◌≡◌, ℕ, ◌+◌, ◌*◌, ◌<◌, length, get_or}
use Rattle.nest_memory.specs.TypeOf.{type_of, field_of, field_list_of}
use Rattle.nest_memory.specs.TypeTree.{field_type}
use Rattle.nest_memory.specs.declared.datatypes.field.Field.{Field}
use Rattle.nest_model.specs.NullKinds.{type_weight, fields_weight}
use Rattle.nest_model.specs.NullLayout.{null_array}
use Rattle.nest_array.specs.declared.any.AnyArray.{AnyArray}
use Rattle.nest_array.specs.Seen.{layout_of}
use Rattle.nest_array.proofs.+nulls.Given as goal

abbrev pub decreases-nulls::null_array : goal.decreases-nulls::null_array
decreases-nulls::null_array l = 3 * type_weight (type_of l.data_type.now) + 2

abbrev pub decreases-nulls::null_fields : goal.decreases-nulls::null_fields
decreases-nulls::null_fields l = 3 * fields_weight (field_list_of l.fields.now)

abbrev pub decreases-fixed_size_list::FixedSizeListArray::nulls : goal.decreases-fixed_size_list::FixedSizeListArray::nulls
decreases-fixed_size_list::FixedSizeListArray::nulls l = 3 * type_weight (type_of l.data_type.now) + 1

abbrev pub decreases-list::ListArray::nulls : goal.decreases-list::ListArray::nulls
decreases-list::ListArray::nulls l = 3 * type_weight (type_of l.data_type.now) + 1

abbrev pub decreases-list::large::LargeListArray::nulls : goal.decreases-list::large::LargeListArray::nulls
decreases-list::large::LargeListArray::nulls l = 3 * type_weight (type_of l.data_type.now) + 1

abbrev pub decreases-map::MapArray::nulls : goal.decreases-map::MapArray::nulls
decreases-map::MapArray::nulls l = 3 * type_weight (type_of l.data_type.now) + 1

abbrev pub decreases-struct_::StructArray::nulls : goal.decreases-struct_::StructArray::nulls
decreases-struct_::StructArray::nulls l = 3 * type_weight (type_of l.data_type.now) + 1

abbrev pub decreases-union::UnionArray::nulls : goal.decreases-union::UnionArray::nulls
decreases-union::UnionArray::nulls l = 3 * type_weight (type_of l.data_type.now) + 1

abbrev pub decreases-dictionary::DictionaryArray::nulls : goal.decreases-dictionary::DictionaryArray::nulls
decreases-dictionary::DictionaryArray::nulls l = 3 * type_weight (type_of l.data_type.now) + 1

abbrev pub invariant-nulls::null_fields-loop-i : goal.invariant-nulls::null_fields-loop-i
invariant-nulls::null_fields-loop-i l =
    record {
      same_length : length l.children.items ≡ l.i;
      done : (k : ℕ) (d : AnyArray) (f : Field) → k < l.i → layout_of (get_or l.children.items k d) ≡ null_array (field_type (field_of (get_or l.fields k f))) l.length l.fill;
    }
