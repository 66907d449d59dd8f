-- The checks of a schema before it is written, and their errors.
use Rattle.std.specs.Prelude.{◌≡◌, ℕ, zero, suc, ◌^◌, ◌≤◌, ◌⊎◌, Bool, true, false, ◌&&◌, ◌||◌, not, nat_lt, ◌==◌, List, [], ◌∷◌, Result, Ok, Err}
use Rattle.std.proofs.Common.{inl, inr, arith}
use Rattle.nest_memory.specs.TypeTree as types
use Rattle.nest_memory.specs.TypeTree.{Entries, TypeTree, FieldTree, field, field_type, count_fields, is_pair}
use Rattle.ipc_flatbuf.specs.declared.error.IpcWriteError.{IpcWriteError}
use Rattle.ipc_flatbuf.specs.declared.error.IpcWriteError.TheVariants as reasons
use Rattle.ipc_flatbuf.specs.WriteErrors.{IsSizeError}
use Rattle.ipc_schema.specs.Types.{spec_is_precision, most_digits, most_digits256, spec_is_coarse, spec_are_union_ids, spec_children_of}
use Rattle.nest_memory.specs.Floats.{spec_is_float}
use Rattle.ipc_schema.specs.StoredTypes.{spec_is_reserved_name}
use Rattle.ipc_schema.specs.Extensions.{extension_name, extension_metadata, spec_has_key, spec_storage_type, spec_table_type, spec_is_extension}

abbrev pub and_then_check : {A B : Type 0} → Result A IpcWriteError → Result B IpcWriteError → Result B IpcWriteError
and_then_check (Ok x) next = next
and_then_check (Err why) next = Err why

-- the error where a condition is false
abbrev pub spec_require : Bool → IpcWriteError → Result (Unit {0}) IpcWriteError
spec_require true why = Ok tt
spec_require false why = Err why

-- a number that fits an int of a table
abbrev pub spec_check_number : ℕ → Result (Unit {0}) IpcWriteError
spec_check_number n = spec_require (nat_lt n (2 ^ 31)) reasons.Size

-- a positive size
abbrev pub spec_check_size : ℕ → Result (Unit {0}) IpcWriteError
spec_check_size n = and_then_check (spec_require (not (n == 0)) reasons.Type) (spec_check_number n)

-- a precision that fits the width, and a scale
abbrev pub spec_check_decimal : ℕ → ℕ → ℕ → Result (Unit {0}) IpcWriteError
spec_check_decimal most digits after = and_then_check (spec_require (spec_is_precision most digits) reasons.Type) (spec_check_number after)

-- the error of a type that cannot be written, without its children
abbrev pub spec_check_type : TypeTree → Result (Unit {0}) IpcWriteError
spec_check_type types.null = Ok tt
spec_check_type types.boolean = Ok tt
spec_check_type types.int8 = Ok tt
spec_check_type types.int16 = Ok tt
spec_check_type types.int32 = Ok tt
spec_check_type types.int64 = Ok tt
spec_check_type types.uint8 = Ok tt
spec_check_type types.uint16 = Ok tt
spec_check_type types.uint32 = Ok tt
spec_check_type types.uint64 = Ok tt
spec_check_type types.float16 = Err reasons.Float
spec_check_type types.float32 = Err reasons.Float
spec_check_type types.float64 = Err reasons.Float
spec_check_type (types.timestamp _ _) = Ok tt
spec_check_type types.date32 = Ok tt
spec_check_type types.date64 = Ok tt
spec_check_type (types.time32 unit) = spec_require (spec_is_coarse unit) reasons.Unit
spec_check_type (types.time64 unit) = spec_require (not (spec_is_coarse unit)) reasons.Unit
spec_check_type (types.duration unit) = Ok tt
spec_check_type (types.interval unit) = Ok tt
spec_check_type types.binary = Ok tt
spec_check_type (types.fixed_size_binary size) = spec_check_size size
spec_check_type types.large_binary = Ok tt
spec_check_type types.utf8 = Ok tt
spec_check_type types.large_utf8 = Ok tt
spec_check_type (types.list f) = Ok tt
spec_check_type (types.fixed_size_list f size) = spec_check_size size
spec_check_type (types.large_list f) = Ok tt
spec_check_type (types.struct fs) = spec_require (not (count_fields fs == 0)) reasons.Type
spec_check_type (types.union fs ids mode) = spec_require (spec_are_union_ids ids (count_fields fs)) reasons.Type
spec_check_type (types.map f sorted) = spec_require (is_pair (field_type f)) reasons.Type
spec_check_type (types.decimal digits after) = spec_check_decimal most_digits digits after
spec_check_type (types.decimal256 digits after) = spec_check_decimal most_digits256 digits after
spec_check_type (types.dictionary key values ordered) = Err reasons.Type
spec_check_type (types.extension title type metadata) = spec_require (spec_is_float (types.extension title type metadata)) reasons.Type

-- the storage of an extension type is not an extension type
abbrev pub is_not_nested_extension : TypeTree → Bool
is_not_nested_extension type = not (spec_is_extension (spec_storage_type type))

-- the name of an extension type is not reserved
abbrev pub spec_has_free_name : TypeTree → Bool
spec_has_free_name (types.extension title type metadata) = spec_is_float (types.extension title type metadata) || not (spec_is_reserved_name title)
spec_has_free_name type = true

-- the value type of a dictionary is not a dictionary or an extension type
abbrev pub spec_is_plain_value_type : TypeTree → Bool
spec_is_plain_value_type (types.dictionary key values ordered) = false
spec_is_plain_value_type (types.extension title type metadata) = spec_is_float (types.extension title type metadata)
spec_is_plain_value_type type = true

abbrev pub spec_can_encode : TypeTree → Bool
spec_can_encode (types.dictionary key values ordered) = spec_is_plain_value_type values
spec_can_encode type = true

-- the custom metadata of a field of an extension type has no key that is reserved for it, and its name is not reserved
abbrev pub spec_has_no_reserved_key : TypeTree → Entries → Bool
spec_has_no_reserved_key type entries = spec_has_free_name type && (not (spec_has_key extension_name entries) && not (spec_is_extension type && spec_has_key extension_metadata entries))

-- the first error of a field, without its children
unfoldable pub spec_check_own : FieldTree → Result (Unit {0}) IpcWriteError
spec_check_own (field name type nullable entries) =
    and_then_check (spec_require (is_not_nested_extension type) reasons.Extension) (and_then_check (spec_require (spec_can_encode (spec_storage_type type)) reasons.Dictionary) (and_then_check (spec_require (spec_has_no_reserved_key type entries) reasons.Extension) (spec_check_type (spec_table_type type))))

-- the first error of fields
unfoldable pub spec_check_each : (FieldTree → Result (Unit {0}) IpcWriteError) → List FieldTree → Result (Unit {0}) IpcWriteError
spec_check_each form [] = Ok tt
spec_check_each form (f ∷ fs) = and_then_check (form f) (spec_check_each form fs)

-- the first error of a field with its descendants, to a depth; that of the field precedes those of its children
unfoldable pub spec_check_field : ℕ → FieldTree → Result (Unit {0}) IpcWriteError
spec_check_field zero f = Err reasons.Depth
spec_check_field (suc depth) f = and_then_check (spec_check_own f) (spec_check_each (spec_check_field depth) (spec_children_of (spec_table_type (field_type f))))

-- the first error of the fields of a schema
abbrev pub check_fields : List FieldTree → Result (Unit {0}) IpcWriteError
check_fields fs = spec_check_each (spec_check_field 64) fs

-- the error of writing a schema: Memory, that of its fields, or Size where it has 2^31 bytes or more
abbrev pub IsSchemaWriteError : Result (Unit {0}) IpcWriteError → ℕ → IpcWriteError → Type 0
IsSchemaWriteError form long why = (why ≡ reasons.Memory) ⊎ ((form ≡ Err why) ⊎ ((form ≡ Ok tt) × (why ≡ reasons.Size) × (2 ^ 31 ≤ long)))

-- an error of a part is an error of what contains it
pub schema_error_of_whole : (form : Result (Unit {0}) IpcWriteError) (part whole : ℕ) (why : IpcWriteError) → part ≤ whole → IsSchemaWriteError form part why → IsSchemaWriteError form whole why
schema_error_of_whole form part whole why le (inl memory) = inl memory
schema_error_of_whole form part whole why le (inr (inl reason)) = inr (inl reason)
schema_error_of_whole form part whole why le (inr (inr (ok, size, long))) = inr (inr (ok, size, omega arith))

-- a size error is an error of a schema whose fields can be written
pub size_error_of_schema : (form : Result (Unit {0}) IpcWriteError) (long : ℕ) (why : IpcWriteError) → form ≡ Ok tt → IsSizeError why long → IsSchemaWriteError form long why
size_error_of_schema form long why ok (inl memory) = inl memory
size_error_of_schema form long why ok (inr (size, past)) = inr (inr (ok, size, past))
