-- The arrays that a field has in a record batch, and how each of them is stored.
use Rattle.std.specs.Prelude.{ℕ, List, [], ◌∷◌, ◌++◌, Option, Some, None}
use Rattle.nest_memory.specs.TypeTree as types
use Rattle.nest_memory.specs.TypeTree.{TypeTree, FieldTree, field, FieldTrees, no_fields, more_fields}
use Rattle.ipc_flatbuf.specs.declared.projection.StoredArray.{StoredArray}
use Rattle.ipc_flatbuf.specs.declared.projection.StoredArray.TheVariants.{Plain}
use Rattle.ipc_schema.specs.SchemaBytes.{spec_type_number}
use Rattle.ipc_schema.specs.SkippedFields.{spec_plain_buffers, spec_mode_buffers}
use Rattle.ipc_schema.specs.StoredTypes.{spec_other_storage}

-- the number of buffers of an array without its children (Columnar format, "Buffer Listing for Each Layout")
abbrev pub spec_array_buffers : TypeTree → ℕ
spec_array_buffers (types.dictionary key values ordered) = 2
spec_array_buffers (types.union fs ids mode) = spec_mode_buffers mode
spec_array_buffers type = spec_plain_buffers (spec_type_number type)

abbrev pub arrays_or : Option StoredArray → List StoredArray → List StoredArray
arrays_or (Some array) arrays = array ∷ []
arrays_or None arrays = arrays

-- An array of a type and its descendants, in the order of field nodes. The values of a dictionary are not in the record batch.
abbrev mutual
  pub stored_arrays : TypeTree → List StoredArray
  stored_arrays (types.extension name type metadata) = arrays_or (spec_other_storage (types.extension name type metadata)) (stored_arrays type)
  stored_arrays (types.list f) = Plain (spec_array_buffers (types.list f)) ∷ field_arrays f
  stored_arrays (types.large_list f) = Plain (spec_array_buffers (types.large_list f)) ∷ field_arrays f
  stored_arrays (types.fixed_size_list f size) = Plain (spec_array_buffers (types.fixed_size_list f size)) ∷ field_arrays f
  stored_arrays (types.map f sorted) = Plain (spec_array_buffers (types.map f sorted)) ∷ field_arrays f
  stored_arrays (types.struct fs) = Plain (spec_array_buffers (types.struct fs)) ∷ arrays_of_fields fs
  stored_arrays (types.union fs ids mode) = Plain (spec_array_buffers (types.union fs ids mode)) ∷ arrays_of_fields fs
  stored_arrays type = Plain (spec_array_buffers type) ∷ []

  pub field_arrays : FieldTree → List StoredArray
  field_arrays (field name type nullable entries) = stored_arrays type

  pub arrays_of_fields : FieldTrees → List StoredArray
  arrays_of_fields no_fields = []
  arrays_of_fields (more_fields f fs) = field_arrays f ++ arrays_of_fields fs

-- those of each of these fields
unfoldable pub arrays_of_each : List FieldTree → List StoredArray
arrays_of_each [] = []
arrays_of_each (f ∷ fs) = field_arrays f ++ arrays_of_each fs
