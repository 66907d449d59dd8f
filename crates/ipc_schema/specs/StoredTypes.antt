-- Arrays that are stored otherwise than they are read: binary and string views (Columnar format, "Variable-size Binary View Layout"), decimals of 32 and
-- 64 bits (Schema.fbs, table Decimal). In a schema as it is stored, the type of such an array is an extension type of the type that is read. No field may name it.
use Rattle.std.specs.Prelude.{ℕ, Bool, ◌||◌, codes, Option, Some, None, is_some, if◌then◌else◌}
use Rattle.std.specs.Str.{bytes_eq}
use Rattle.nest_memory.specs.TypeTree as types
use Rattle.nest_memory.specs.TypeTree.{Letters, TypeTree, FieldTree, field, FieldTrees, no_fields, more_fields, logical_type}
use Rattle.nest_memory.specs.Floats.{spec_is_float_name, spec_is_float}
use Rattle.ipc_flatbuf.specs.declared.projection.StoredArray.{StoredArray}
use Rattle.ipc_flatbuf.specs.declared.projection.StoredArray.TheVariants.{View, Decimal32, Decimal64}

abbrev pub spec_binary_view : TypeTree
spec_binary_view = types.extension (codes "tiekvorn.binary_view") types.large_binary None

abbrev pub spec_utf8_view : TypeTree
spec_utf8_view = types.extension (codes "tiekvorn.utf8_view") types.large_utf8 None

abbrev pub spec_decimal32 : ℕ → ℕ → TypeTree
spec_decimal32 digits after = types.extension (codes "tiekvorn.decimal32") (types.decimal digits after) None

abbrev pub spec_decimal64 : ℕ → ℕ → TypeTree
spec_decimal64 digits after = types.extension (codes "tiekvorn.decimal64") (types.decimal digits after) None

-- ---- how an array of a type is stored, where it is read as another one

-- by the name of its extension type
abbrev pub spec_named_storage : Letters → Option StoredArray
spec_named_storage name =
    if bytes_eq name (codes "tiekvorn.binary_view") || bytes_eq name (codes "tiekvorn.utf8_view") then Some View
    else (if bytes_eq name (codes "tiekvorn.decimal32") then Some Decimal32 else (if bytes_eq name (codes "tiekvorn.decimal64") then Some Decimal64 else None))

-- a name that no field may have
abbrev pub spec_is_reserved_name : Letters → Bool
spec_is_reserved_name name = spec_is_float_name name || is_some (spec_named_storage name)

abbrev pub spec_other_storage : TypeTree → Option StoredArray
spec_other_storage (types.extension name type metadata) = if spec_is_float (types.extension name type metadata) then None else spec_named_storage name
spec_other_storage type = None

-- the value type of a dictionary: without extension types, unless its array is stored otherwise
abbrev pub spec_value_type : TypeTree → TypeTree
spec_value_type type = if is_some (spec_other_storage type) then type else logical_type type

-- ---- the type that is read

-- the storage of an extension type
abbrev pub spec_unwrapped : TypeTree → TypeTree
spec_unwrapped (types.extension name type metadata) = type
spec_unwrapped type = type

abbrev pub type_or : Option StoredArray → TypeTree → TypeTree → TypeTree
type_or (Some array) type other = type
type_or None type other = other

abbrev mutual
  pub read_type : TypeTree → TypeTree
  read_type (types.extension name type metadata) = type_or (spec_other_storage (types.extension name type metadata)) type (types.extension name (read_type type) metadata)
  read_type (types.list f) = types.list (read_field f)
  read_type (types.large_list f) = types.large_list (read_field f)
  read_type (types.fixed_size_list f size) = types.fixed_size_list (read_field f) size
  read_type (types.map f sorted) = types.map (read_field f) sorted
  read_type (types.struct fs) = types.struct (read_fields fs)
  read_type (types.union fs ids mode) = types.union (read_fields fs) ids mode
  read_type (types.dictionary key values ordered) = types.dictionary key (read_type values) ordered
  read_type type = type

  pub read_field : FieldTree → FieldTree
  read_field (field name type nullable entries) = field name (read_type type) nullable entries

  pub read_fields : FieldTrees → FieldTrees
  read_fields no_fields = no_fields
  read_fields (more_fields f fs) = more_fields (read_field f) (read_fields fs)
