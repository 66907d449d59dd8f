-- Worked examples of writing dictionary-encoded fields: the bytes by hand from the format, the ids and their value types.
use Rattle.std.specs.Prelude.{◌≡◌, ℕ, ℤ, pos, true, false, List, [], ◌∷◌, None, Ok, Err, refl}
use Rattle.nest_memory.specs.TypeTree as types
use Rattle.nest_memory.specs.TypeTree.{FieldTree, field, no_fields, more_fields}
use Rattle.nest_memory.specs.declared.datatypes.IntegerType.TheVariants.{Int8, Int64, UInt32}
use Rattle.ipc_flatbuf.specs.declared.error.IpcWriteError.TheVariants as reasons
use Rattle.ipc_flatbuf.specs.PartBytes.{u32_bytes, i64_bytes, string_bytes, offsets, concatenated, table_vector_bytes}
use Rattle.ipc_schema.specs.Dictionaries.{ValueTypeModel}
use Rattle.ipc_schema.specs.DictionaryExamples.{colors, inside, outside}
use Rattle.ipc_schema.specs.Extensions.{extension_name}
use Rattle.ipc_schema.specs.DictionaryIds.{total, each_from, count_dictionaries, ids_from, flattened, value_types_from}
use Rattle.ipc_schema.specs.WriteChecks.{spec_check_own, spec_check_each, spec_check_field}
use Rattle.ipc_schema.specs.SchemaBytes.{pair_bytes, no_field, two_fields, type_bytes, spec_type_number, encoding_head, encoding_part, field_vtable, field_head, field_parts, field_bytes}

-- ---- bytes

-- strings with 8-bit keys
abbrev pub texts : FieldTree
texts = field (97 ∷ []) (types.dictionary Int8 types.utf8 false) true []

abbrev pub texts_bytes : List ℕ
texts_bytes =
    18 ∷ 0 ∷ 28 ∷ 0 ∷ 4 ∷ 0 ∷ 20 ∷ 0 ∷ 21 ∷ 0 ∷ 8 ∷ 0 ∷ 24 ∷ 0 ∷ 12 ∷ 0 ∷ 16 ∷ 0 ∷ 0 ∷ 0 ∷ 0 ∷ 0 ∷ 0 ∷ 0 ∷ 24 ∷ 0 ∷ 0 ∷ 0 ∷ 108 ∷ 0 ∷ 0 ∷ 0 ∷ 92 ∷ 0 ∷ 0 ∷ 0 ∷ 92 ∷ 0 ∷ 0 ∷ 0 ∷ 104 ∷ 0 ∷ 0 ∷ 0 ∷ 1 ∷ 5 ∷ 0 ∷ 0 ∷ 16 ∷ 0 ∷ 0 ∷ 0 ∷ 10 ∷ 0 ∷ 20 ∷ 0 ∷ 8 ∷ 0 ∷ 4 ∷ 0 ∷ 16 ∷ 0 ∷ 0 ∷ 0 ∷ 12 ∷ 0 ∷ 0 ∷ 0 ∷ 32 ∷ 0 ∷ 0 ∷ 0 ∷ 0 ∷ 0 ∷ 0 ∷ 0 ∷ 0 ∷ 0 ∷ 0 ∷ 0 ∷ 0 ∷ 0 ∷ 0 ∷ 0 ∷ 0 ∷ 0 ∷ 0 ∷ 0 ∷ 8 ∷ 0 ∷ 12 ∷ 0 ∷ 4 ∷ 0 ∷ 8 ∷ 0 ∷ 0 ∷ 0 ∷ 0 ∷ 0 ∷ 12 ∷ 0 ∷ 0 ∷ 0 ∷ 8 ∷ 0 ∷ 0 ∷ 0 ∷ 1 ∷ 0 ∷ 0 ∷ 0 ∷ 4 ∷ 0 ∷ 4 ∷ 0 ∷ 0 ∷ 0 ∷ 0 ∷ 0 ∷ 0 ∷ 0 ∷ 0 ∷ 0 ∷ 12 ∷ 0 ∷ 0 ∷ 0 ∷ 0 ∷ 0 ∷ 0 ∷ 0 ∷ 0 ∷ 0 ∷ 0 ∷ 0 ∷ 1 ∷ 0 ∷ 0 ∷ 0 ∷ 97 ∷ 0 ∷ 0 ∷ 0 ∷ 0 ∷ 0 ∷ 0 ∷ 0 ∷ 0 ∷ 0 ∷ 0 ∷ 0 ∷ []

texts_are : field_bytes 64 0 texts ≡ texts_bytes
unfolding each_from count_dictionaries total u32_bytes i64_bytes string_bytes offsets concatenated table_vector_bytes no_field two_fields type_bytes spec_type_number pair_bytes encoding_head encoding_part field_vtable field_head field_parts field_bytes
texts_are = refl

-- an ordered dictionary of lists with a nested dictionary: its id precedes that of the nested one
abbrev pub outside_bytes : List ℕ
outside_bytes =
    18 ∷ 0 ∷ 28 ∷ 0 ∷ 4 ∷ 0 ∷ 20 ∷ 0 ∷ 21 ∷ 0 ∷ 8 ∷ 0 ∷ 24 ∷ 0 ∷ 12 ∷ 0 ∷ 16 ∷ 0 ∷ 0 ∷ 0 ∷ 0 ∷ 0 ∷ 0 ∷ 0 ∷ 24 ∷ 0 ∷ 0 ∷ 0 ∷ 4 ∷ 1 ∷ 0 ∷ 0 ∷ 92 ∷ 0 ∷ 0 ∷ 0 ∷ 92 ∷ 0 ∷ 0 ∷ 0 ∷ 0 ∷ 1 ∷ 0 ∷ 0 ∷ 1 ∷ 12 ∷ 0 ∷ 0 ∷ 16 ∷ 0 ∷ 0 ∷ 0 ∷ 10 ∷ 0 ∷ 20 ∷ 0 ∷ 8 ∷ 0 ∷ 4 ∷ 0 ∷ 16 ∷ 0 ∷ 0 ∷ 0 ∷ 12 ∷ 0 ∷ 0 ∷ 0 ∷ 32 ∷ 0 ∷ 0 ∷ 0 ∷ 0 ∷ 0 ∷ 0 ∷ 0 ∷ 0 ∷ 0 ∷ 0 ∷ 0 ∷ 1 ∷ 0 ∷ 0 ∷ 0 ∷ 0 ∷ 0 ∷ 0 ∷ 0 ∷ 8 ∷ 0 ∷ 12 ∷ 0 ∷ 4 ∷ 0 ∷ 8 ∷ 0 ∷ 0 ∷ 0 ∷ 0 ∷ 0 ∷ 12 ∷ 0 ∷ 0 ∷ 0 ∷ 16 ∷ 0 ∷ 0 ∷ 0 ∷ 1 ∷ 0 ∷ 0 ∷ 0 ∷ 4 ∷ 0 ∷ 4 ∷ 0 ∷ 0 ∷ 0 ∷ 0 ∷ 0 ∷ 0 ∷ 0 ∷ 0 ∷ 0 ∷ 12 ∷ 0 ∷ 0 ∷ 0 ∷ 1 ∷ 0 ∷ 0 ∷ 0 ∷ 28 ∷ 0 ∷ 0 ∷ 0 ∷ 18 ∷ 0 ∷ 28 ∷ 0 ∷ 4 ∷ 0 ∷ 20 ∷ 0 ∷ 21 ∷ 0 ∷ 8 ∷ 0 ∷ 24 ∷ 0 ∷ 12 ∷ 0 ∷ 16 ∷ 0 ∷ 0 ∷ 0 ∷ 0 ∷ 0 ∷ 0 ∷ 0 ∷ 24 ∷ 0 ∷ 0 ∷ 0 ∷ 108 ∷ 0 ∷ 0 ∷ 0 ∷ 92 ∷ 0 ∷ 0 ∷ 0 ∷ 92 ∷ 0 ∷ 0 ∷ 0 ∷ 104 ∷ 0 ∷ 0 ∷ 0 ∷ 1 ∷ 5 ∷ 0 ∷ 0 ∷ 16 ∷ 0 ∷ 0 ∷ 0 ∷ 10 ∷ 0 ∷ 20 ∷ 0 ∷ 8 ∷ 0 ∷ 4 ∷ 0 ∷ 16 ∷ 0 ∷ 0 ∷ 0 ∷ 12 ∷ 0 ∷ 0 ∷ 0 ∷ 32 ∷ 0 ∷ 0 ∷ 0 ∷ 1 ∷ 0 ∷ 0 ∷ 0 ∷ 0 ∷ 0 ∷ 0 ∷ 0 ∷ 0 ∷ 0 ∷ 0 ∷ 0 ∷ 0 ∷ 0 ∷ 0 ∷ 0 ∷ 8 ∷ 0 ∷ 12 ∷ 0 ∷ 4 ∷ 0 ∷ 8 ∷ 0 ∷ 0 ∷ 0 ∷ 0 ∷ 0 ∷ 12 ∷ 0 ∷ 0 ∷ 0 ∷ 8 ∷ 0 ∷ 0 ∷ 0 ∷ 1 ∷ 0 ∷ 0 ∷ 0 ∷ 4 ∷ 0 ∷ 4 ∷ 0 ∷ 0 ∷ 0 ∷ 0 ∷ 0 ∷ 0 ∷ 0 ∷ 0 ∷ 0 ∷ 12 ∷ 0 ∷ 0 ∷ 0 ∷ 0 ∷ 0 ∷ 0 ∷ 0 ∷ 0 ∷ 0 ∷ 0 ∷ 0 ∷ 0 ∷ 0 ∷ 0 ∷ 0 ∷ 0 ∷ 0 ∷ 0 ∷ 0 ∷ 0 ∷ 0 ∷ 0 ∷ 0 ∷ 0 ∷ 0 ∷ 0 ∷ 0 ∷ 0 ∷ 0 ∷ 0 ∷ 0 ∷ 0 ∷ 0 ∷ 0 ∷ 0 ∷ 0 ∷ 0 ∷ 0 ∷ 0 ∷ 0 ∷ 0 ∷ 0 ∷ 0 ∷ []

outside_are : field_bytes 64 0 outside ≡ outside_bytes
unfolding each_from count_dictionaries total u32_bytes i64_bytes string_bytes offsets concatenated table_vector_bytes no_field two_fields type_bytes spec_type_number pair_bytes encoding_head encoding_part field_vtable field_head field_parts field_bytes
outside_are = refl

-- the storage of an extension type, after seven other dictionaries
abbrev pub colors_written : List ℕ
colors_written =
    18 ∷ 0 ∷ 28 ∷ 0 ∷ 4 ∷ 0 ∷ 20 ∷ 0 ∷ 21 ∷ 0 ∷ 8 ∷ 0 ∷ 24 ∷ 0 ∷ 12 ∷ 0 ∷ 16 ∷ 0 ∷ 0 ∷ 0 ∷ 0 ∷ 0 ∷ 0 ∷ 0 ∷ 24 ∷ 0 ∷ 0 ∷ 0 ∷ 108 ∷ 0 ∷ 0 ∷ 0 ∷ 92 ∷ 0 ∷ 0 ∷ 0 ∷ 92 ∷ 0 ∷ 0 ∷ 0 ∷ 104 ∷ 0 ∷ 0 ∷ 0 ∷ 1 ∷ 5 ∷ 0 ∷ 0 ∷ 16 ∷ 0 ∷ 0 ∷ 0 ∷ 10 ∷ 0 ∷ 20 ∷ 0 ∷ 8 ∷ 0 ∷ 4 ∷ 0 ∷ 16 ∷ 0 ∷ 0 ∷ 0 ∷ 12 ∷ 0 ∷ 0 ∷ 0 ∷ 32 ∷ 0 ∷ 0 ∷ 0 ∷ 7 ∷ 0 ∷ 0 ∷ 0 ∷ 0 ∷ 0 ∷ 0 ∷ 0 ∷ 0 ∷ 0 ∷ 0 ∷ 0 ∷ 0 ∷ 0 ∷ 0 ∷ 0 ∷ 8 ∷ 0 ∷ 12 ∷ 0 ∷ 4 ∷ 0 ∷ 8 ∷ 0 ∷ 0 ∷ 0 ∷ 0 ∷ 0 ∷ 12 ∷ 0 ∷ 0 ∷ 0 ∷ 8 ∷ 0 ∷ 0 ∷ 0 ∷ 1 ∷ 0 ∷ 0 ∷ 0 ∷ 4 ∷ 0 ∷ 4 ∷ 0 ∷ 0 ∷ 0 ∷ 0 ∷ 0 ∷ 0 ∷ 0 ∷ 0 ∷ 0 ∷ 12 ∷ 0 ∷ 0 ∷ 0 ∷ 0 ∷ 0 ∷ 0 ∷ 0 ∷ 0 ∷ 0 ∷ 0 ∷ 0 ∷ 1 ∷ 0 ∷ 0 ∷ 0 ∷ 99 ∷ 0 ∷ 0 ∷ 0 ∷ 1 ∷ 0 ∷ 0 ∷ 0 ∷ 12 ∷ 0 ∷ 0 ∷ 0 ∷ 8 ∷ 0 ∷ 12 ∷ 0 ∷ 4 ∷ 0 ∷ 8 ∷ 0 ∷ 8 ∷ 0 ∷ 0 ∷ 0 ∷ 12 ∷ 0 ∷ 0 ∷ 0 ∷ 40 ∷ 0 ∷ 0 ∷ 0 ∷ 0 ∷ 0 ∷ 0 ∷ 0 ∷ 20 ∷ 0 ∷ 0 ∷ 0 ∷ 65 ∷ 82 ∷ 82 ∷ 79 ∷ 87 ∷ 58 ∷ 101 ∷ 120 ∷ 116 ∷ 101 ∷ 110 ∷ 115 ∷ 105 ∷ 111 ∷ 110 ∷ 58 ∷ 110 ∷ 97 ∷ 109 ∷ 101 ∷ 0 ∷ 0 ∷ 0 ∷ 0 ∷ 0 ∷ 0 ∷ 0 ∷ 0 ∷ 1 ∷ 0 ∷ 0 ∷ 0 ∷ 101 ∷ 0 ∷ 0 ∷ 0 ∷ []

colors_are : field_bytes 64 7 colors ≡ colors_written
unfolding each_from count_dictionaries total u32_bytes i64_bytes string_bytes offsets concatenated table_vector_bytes no_field two_fields type_bytes spec_type_number pair_bytes encoding_head encoding_part field_vtable field_head field_parts field_bytes
colors_are = refl

-- a struct of two fields, after three other dictionaries
abbrev pub both : FieldTree
both =
    field (98 ∷ []) (types.struct (more_fields (field (97 ∷ []) (types.dictionary UInt32 types.utf8 false) false []) (more_fields (field [] (types.dictionary Int64 types.int32 true) true []) no_fields))) true []

abbrev pub both_bytes : List ℕ
both_bytes =
    18 ∷ 0 ∷ 24 ∷ 0 ∷ 4 ∷ 0 ∷ 20 ∷ 0 ∷ 21 ∷ 0 ∷ 8 ∷ 0 ∷ 0 ∷ 0 ∷ 12 ∷ 0 ∷ 16 ∷ 0 ∷ 0 ∷ 0 ∷ 0 ∷ 0 ∷ 0 ∷ 0 ∷ 24 ∷ 0 ∷ 0 ∷ 0 ∷ 108 ∷ 1 ∷ 0 ∷ 0 ∷ 28 ∷ 0 ∷ 0 ∷ 0 ∷ 28 ∷ 0 ∷ 0 ∷ 0 ∷ 104 ∷ 1 ∷ 0 ∷ 0 ∷ 1 ∷ 13 ∷ 0 ∷ 0 ∷ 4 ∷ 0 ∷ 4 ∷ 0 ∷ 0 ∷ 0 ∷ 0 ∷ 0 ∷ 0 ∷ 0 ∷ 0 ∷ 0 ∷ 12 ∷ 0 ∷ 0 ∷ 0 ∷ 2 ∷ 0 ∷ 0 ∷ 0 ∷ 36 ∷ 0 ∷ 0 ∷ 0 ∷ 184 ∷ 0 ∷ 0 ∷ 0 ∷ 0 ∷ 0 ∷ 0 ∷ 0 ∷ 18 ∷ 0 ∷ 28 ∷ 0 ∷ 4 ∷ 0 ∷ 20 ∷ 0 ∷ 21 ∷ 0 ∷ 8 ∷ 0 ∷ 24 ∷ 0 ∷ 12 ∷ 0 ∷ 16 ∷ 0 ∷ 0 ∷ 0 ∷ 0 ∷ 0 ∷ 0 ∷ 0 ∷ 24 ∷ 0 ∷ 0 ∷ 0 ∷ 108 ∷ 0 ∷ 0 ∷ 0 ∷ 92 ∷ 0 ∷ 0 ∷ 0 ∷ 92 ∷ 0 ∷ 0 ∷ 0 ∷ 104 ∷ 0 ∷ 0 ∷ 0 ∷ 0 ∷ 5 ∷ 0 ∷ 0 ∷ 16 ∷ 0 ∷ 0 ∷ 0 ∷ 10 ∷ 0 ∷ 20 ∷ 0 ∷ 8 ∷ 0 ∷ 4 ∷ 0 ∷ 16 ∷ 0 ∷ 0 ∷ 0 ∷ 12 ∷ 0 ∷ 0 ∷ 0 ∷ 32 ∷ 0 ∷ 0 ∷ 0 ∷ 3 ∷ 0 ∷ 0 ∷ 0 ∷ 0 ∷ 0 ∷ 0 ∷ 0 ∷ 0 ∷ 0 ∷ 0 ∷ 0 ∷ 0 ∷ 0 ∷ 0 ∷ 0 ∷ 8 ∷ 0 ∷ 12 ∷ 0 ∷ 4 ∷ 0 ∷ 8 ∷ 0 ∷ 0 ∷ 0 ∷ 0 ∷ 0 ∷ 12 ∷ 0 ∷ 0 ∷ 0 ∷ 32 ∷ 0 ∷ 0 ∷ 0 ∷ 0 ∷ 0 ∷ 0 ∷ 0 ∷ 4 ∷ 0 ∷ 4 ∷ 0 ∷ 0 ∷ 0 ∷ 0 ∷ 0 ∷ 0 ∷ 0 ∷ 0 ∷ 0 ∷ 12 ∷ 0 ∷ 0 ∷ 0 ∷ 0 ∷ 0 ∷ 0 ∷ 0 ∷ 0 ∷ 0 ∷ 0 ∷ 0 ∷ 1 ∷ 0 ∷ 0 ∷ 0 ∷ 97 ∷ 0 ∷ 0 ∷ 0 ∷ 0 ∷ 0 ∷ 0 ∷ 0 ∷ 0 ∷ 0 ∷ 0 ∷ 0 ∷ 18 ∷ 0 ∷ 28 ∷ 0 ∷ 4 ∷ 0 ∷ 20 ∷ 0 ∷ 21 ∷ 0 ∷ 8 ∷ 0 ∷ 24 ∷ 0 ∷ 12 ∷ 0 ∷ 16 ∷ 0 ∷ 0 ∷ 0 ∷ 0 ∷ 0 ∷ 0 ∷ 0 ∷ 24 ∷ 0 ∷ 0 ∷ 0 ∷ 116 ∷ 0 ∷ 0 ∷ 0 ∷ 92 ∷ 0 ∷ 0 ∷ 0 ∷ 100 ∷ 0 ∷ 0 ∷ 0 ∷ 112 ∷ 0 ∷ 0 ∷ 0 ∷ 1 ∷ 2 ∷ 0 ∷ 0 ∷ 16 ∷ 0 ∷ 0 ∷ 0 ∷ 10 ∷ 0 ∷ 20 ∷ 0 ∷ 8 ∷ 0 ∷ 4 ∷ 0 ∷ 16 ∷ 0 ∷ 0 ∷ 0 ∷ 12 ∷ 0 ∷ 0 ∷ 0 ∷ 32 ∷ 0 ∷ 0 ∷ 0 ∷ 4 ∷ 0 ∷ 0 ∷ 0 ∷ 0 ∷ 0 ∷ 0 ∷ 0 ∷ 1 ∷ 0 ∷ 0 ∷ 0 ∷ 0 ∷ 0 ∷ 0 ∷ 0 ∷ 8 ∷ 0 ∷ 12 ∷ 0 ∷ 4 ∷ 0 ∷ 8 ∷ 0 ∷ 0 ∷ 0 ∷ 0 ∷ 0 ∷ 12 ∷ 0 ∷ 0 ∷ 0 ∷ 64 ∷ 0 ∷ 0 ∷ 0 ∷ 1 ∷ 0 ∷ 0 ∷ 0 ∷ 8 ∷ 0 ∷ 12 ∷ 0 ∷ 4 ∷ 0 ∷ 8 ∷ 0 ∷ 0 ∷ 0 ∷ 0 ∷ 0 ∷ 12 ∷ 0 ∷ 0 ∷ 0 ∷ 32 ∷ 0 ∷ 0 ∷ 0 ∷ 1 ∷ 0 ∷ 0 ∷ 0 ∷ 0 ∷ 0 ∷ 0 ∷ 0 ∷ 0 ∷ 0 ∷ 0 ∷ 0 ∷ 0 ∷ 0 ∷ 0 ∷ 0 ∷ 0 ∷ 0 ∷ 0 ∷ 0 ∷ 0 ∷ 0 ∷ 0 ∷ 0 ∷ 0 ∷ 0 ∷ 0 ∷ 0 ∷ 1 ∷ 0 ∷ 0 ∷ 0 ∷ 98 ∷ 0 ∷ 0 ∷ 0 ∷ 0 ∷ 0 ∷ 0 ∷ 0 ∷ 0 ∷ 0 ∷ 0 ∷ 0 ∷ []

both_are : field_bytes 64 3 both ≡ both_bytes
unfolding each_from count_dictionaries total u32_bytes i64_bytes string_bytes offsets concatenated table_vector_bytes no_field two_fields type_bytes spec_type_number pair_bytes encoding_head encoding_part field_vtable field_head field_parts field_bytes
both_are = refl

abbrev pub AreWritten : Type 0
AreWritten = (field_bytes 64 0 texts ≡ texts_bytes) × (field_bytes 64 0 outside ≡ outside_bytes) × (field_bytes 64 7 colors ≡ colors_written) × (field_bytes 64 3 both ≡ both_bytes)

pub are_written : AreWritten
are_written = (texts_are, outside_are, colors_are, both_are)

-- ---- ids

abbrev pub outside_named : List (ℤ × ValueTypeModel)
outside_named = (pos 4, record { values = types.list inside; inside = pos 5 ∷ [] }) ∷ (pos 5, record { values = types.utf8; inside = [] }) ∷ []

outside_name : value_types_from 64 4 outside ≡ outside_named
unfolding each_from count_dictionaries total flattened ids_from value_types_from
outside_name = refl

both_count : count_dictionaries 64 both ≡ 2
unfolding count_dictionaries total
both_count = refl

three_ids : ids_from 0 3 ≡ pos 0 ∷ pos 1 ∷ pos 2 ∷ []
unfolding ids_from
three_ids = refl

abbrev pub AreNumbered : Type 0
AreNumbered = (value_types_from 64 4 outside ≡ outside_named) × (count_dictionaries 64 both ≡ 2) × (ids_from 0 3 ≡ pos 0 ∷ pos 1 ∷ pos 2 ∷ [])

pub are_numbered : AreNumbered
are_numbered = (outside_name, both_count, three_ids)

-- ---- errors

-- a dictionary of a dictionary, whose metadata also has a reserved key
abbrev pub twice : FieldTree
twice = field [] (types.dictionary Int8 (types.dictionary Int8 types.float32 false) false) true ((extension_name, []) ∷ [])

-- a dictionary of an extension type
abbrev pub around : FieldTree
around = field [] (types.dictionary Int8 (types.extension [] types.utf8 None) false) true []

-- an extension type of an extension type of such a dictionary
abbrev pub deeper : FieldTree
deeper = field [] (types.extension [] (types.extension [] (types.dictionary Int8 (types.extension [] types.utf8 None) false) None) None) true []

-- a dictionary of floats, with and without a reserved key in its metadata
abbrev pub spelled : FieldTree
spelled = field [] (types.dictionary Int8 types.float32 false) true ((extension_name, []) ∷ [])

abbrev pub floats : FieldTree
floats = field [] (types.dictionary Int8 types.float32 false) true []

twice_is : spec_check_field 64 twice ≡ Err reasons.Dictionary
unfolding spec_check_own spec_check_each spec_check_field
twice_is = refl

around_is : spec_check_field 64 around ≡ Err reasons.Dictionary
unfolding spec_check_own spec_check_each spec_check_field
around_is = refl

deeper_is : spec_check_field 64 deeper ≡ Err reasons.Extension
unfolding spec_check_own spec_check_each spec_check_field
deeper_is = refl

spelled_is : spec_check_field 64 spelled ≡ Err reasons.Extension
unfolding spec_check_own spec_check_each spec_check_field
spelled_is = refl

floats_are : spec_check_field 64 floats ≡ Err reasons.Float
unfolding spec_check_own spec_check_each spec_check_field
floats_are = refl

outside_is : spec_check_field 64 outside ≡ Ok tt
unfolding spec_check_own spec_check_each spec_check_field
outside_is = refl

-- the children of a value type are one level deeper
shallow_is : spec_check_field 1 outside ≡ Err reasons.Depth
unfolding spec_check_own spec_check_each spec_check_field
shallow_is = refl

abbrev pub AreRefused : Type 0
AreRefused = (spec_check_field 64 twice ≡ Err reasons.Dictionary) × (spec_check_field 64 around ≡ Err reasons.Dictionary) × (spec_check_field 64 deeper ≡ Err reasons.Extension) × (spec_check_field 64 spelled ≡ Err reasons.Extension)
    × (spec_check_field 64 floats ≡ Err reasons.Float) × (spec_check_field 64 outside ≡ Ok tt) × (spec_check_field 1 outside ≡ Err reasons.Depth)

pub are_refused : AreRefused
are_refused = (twice_is, around_is, deeper_is, spelled_is, floats_are, outside_is, shallow_is)
