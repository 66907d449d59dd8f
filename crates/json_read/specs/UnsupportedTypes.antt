-- Data types whose values cannot be read from JSON. Of several reasons the first is given, a type before its children, these in order.
use Rattle.std.specs.Prelude.{◌≡◌, Bool, true, false, ◌==◌, ◌||◌, not, Option, Some, None, if◌then◌else◌}
use Rattle.json_read.specs.JsonSlots.{is_named}
use Rattle.json_read.specs.declared.error.NewBuilderError.{NewBuilderError}
use Rattle.json_read.specs.declared.error.NewBuilderError.TheVariants as builder_error
use Rattle.json_read.specs.declared.error.UnsupportedTypeError.{UnsupportedTypeError}
use Rattle.json_read.specs.declared.error.UnsupportedTypeError.TheVariants.{FloatingPoint, Map, Union, DuplicateFieldNames, EmptyStruct, ZeroSize, DictionaryValues, VariableSizeExtension}
use Rattle.nest_any.specs.Refusals.{is_flat}
use Rattle.nest_memory.specs.Physical.{physical_type}
use Rattle.nest_memory.specs.TypeTree as types
use Rattle.nest_memory.specs.TypeTree.{Letters, TypeTree, FieldTree, field, FieldTrees, no_fields, more_fields, count_fields}
use Rattle.nest_memory.specs.declared.datatypes.physical_type.PhysicalType.{PhysicalType}
use Rattle.nest_memory.specs.declared.datatypes.physical_type.PhysicalType.TheVariants as physical
use Rattle.json_write.specs.JsonText.{field_name}

-- types of the variable-size binary layout
abbrev pub spec_is_variable_size_binary : PhysicalType → Bool
spec_is_variable_size_binary physical.Binary = true
spec_is_variable_size_binary physical.LargeBinary = true
spec_is_variable_size_binary physical.Utf8 = true
spec_is_variable_size_binary physical.LargeUtf8 = true
spec_is_variable_size_binary _ = false

-- two fields have the same name
abbrev pub has_duplicate_names : FieldTrees → Bool
has_duplicate_names no_fields = false
has_duplicate_names (more_fields f fs) = is_named (field_name f) fs || has_duplicate_names fs

-- one reason before others
abbrev pub unsupported_if : Bool → UnsupportedTypeError → Option UnsupportedTypeError → Option UnsupportedTypeError
unsupported_if b e rest = if b then Some e else rest

abbrev pub first_unsupported : Option UnsupportedTypeError → Option UnsupportedTypeError → Option UnsupportedTypeError
first_unsupported None rest = rest
first_unsupported (Some e) rest = Some e

abbrev mutual
  pub unsupported_type : TypeTree → Option UnsupportedTypeError
  unsupported_type types.float16 = Some FloatingPoint
  unsupported_type types.float32 = Some FloatingPoint
  unsupported_type types.float64 = Some FloatingPoint
  unsupported_type (types.fixed_size_binary s) = unsupported_if (s == 0) ZeroSize None
  unsupported_type (types.list f) = unsupported_field f
  unsupported_type (types.large_list f) = unsupported_field f
  unsupported_type (types.fixed_size_list f s) = unsupported_if (s == 0) ZeroSize (unsupported_field f)
  unsupported_type (types.struct fs) = unsupported_if (count_fields fs == 0) EmptyStruct (unsupported_if (has_duplicate_names fs) DuplicateFieldNames (unsupported_fields fs))
  unsupported_type (types.union fs ids mode) = Some Union
  unsupported_type (types.map f b) = Some Map
  unsupported_type (types.dictionary k t b) = unsupported_if (not (is_flat (physical_type t))) DictionaryValues (unsupported_type t)
  unsupported_type (types.extension n t m) = unsupported_if (spec_is_variable_size_binary (physical_type t)) VariableSizeExtension (unsupported_type t)
  unsupported_type t = None

  pub unsupported_field : FieldTree → Option UnsupportedTypeError
  unsupported_field (field n t b es) = unsupported_type t

  pub unsupported_fields : FieldTrees → Option UnsupportedTypeError
  unsupported_fields no_fields = None
  unsupported_fields (more_fields f fs) = first_unsupported (unsupported_field f) (unsupported_fields fs)

-- the first reason, or a failed allocation
abbrev pub IsNewBuilderError : NewBuilderError → Option UnsupportedTypeError → Type 0
IsNewBuilderError (builder_error.Type e) error = error ≡ Some e
IsNewBuilderError builder_error.Memory error = Unit {0}
