-- Worked examples of floating-point types: the bytes of fields of another writer, one for each precision, in a list, as
-- dictionary values and as storage of an extension type; fields that are refused; bytes that are written.
use Rattle.std.specs.Prelude.{◌≡◌, ℕ, pos, true, false, List, [], ◌∷◌, None, Some, Ok, Err, refl}
use Rattle.std.specs.Str.{is_utf8, IsAscii}
use Rattle.std.proofs.Common.{rules, arith}
use Rattle.std.proofs.lemmas.Str.{IsUtf8-from_ascii, IsAscii-append, is_utf8-from_IsUtf8}
use Rattle.nest_memory.specs.TypeTree as types
use Rattle.nest_memory.specs.TypeTree.{TypeTree, FieldTree, field}
use Rattle.nest_memory.specs.declared.datatypes.IntegerType.TheVariants.{Int8}
use Rattle.ipc_flatbuf.specs.declared.error.IpcReadError.TheVariants.{UnsupportedType}
use Rattle.ipc_flatbuf.specs.declared.error.IpcWriteError.TheVariants as reasons
use Rattle.ipc_flatbuf.specs.Flatbuffers.{spec_offset_at, spec_back_from, spec_table_at, spec_field_position, spec_charge_budget, spec_read_table, spec_read_vector, spec_read_string, tables_at, spec_items_at, spec_str_at}
use Rattle.ipc_flatbuf.specs.PartBytes.{u32_bytes, string_bytes, offsets, concatenated, table_vector_bytes}
use Rattle.nest_memory.specs.declared.datatypes.floats.Precision.TheVariants.{Half, Single, Double}
use Rattle.nest_memory.specs.Floats.{spec_float_name, spec_float_type}
use Rattle.ipc_schema.specs.Types.{spec_bare_at, spec_integer_at, spec_float_at}
use Rattle.ipc_schema.specs.ExtensionExamples.{text_name_key}
use Rattle.ipc_schema.specs.Dictionaries.{no_dictionaries, progress, spec_key_at, spec_encoding_at}
use Rattle.ipc_schema.specs.DictionaryIds.{total, each_from, count_dictionaries}
use Rattle.ipc_schema.specs.FieldVectors.{tables_in_turn}
use Rattle.ipc_schema.specs.Schemas.{spec_pair_at, spec_metadata_at, spec_field_at}
use Rattle.ipc_schema.specs.SchemaBytes.{pair_bytes, one_field, float_bytes, type_bytes, spec_type_number, field_vtable, field_head, field_parts, field_bytes}
use Rattle.ipc_schema.specs.TypeExamples.{HasField}
use Rattle.ipc_schema.specs.WriteChecks.{spec_check_own, spec_check_each, spec_check_field}

-- ---- strings

text_h : is_utf8 (104 ∷ []) ≡ true
text_h = is_utf8-from_IsUtf8 (104 ∷ []) (IsUtf8-from_ascii (104 ∷ []) (search (rules, arith)))

text_f : is_utf8 (102 ∷ []) ≡ true
text_f = is_utf8-from_IsUtf8 (102 ∷ []) (IsUtf8-from_ascii (102 ∷ []) (search (rules, arith)))

text_d : is_utf8 (100 ∷ []) ≡ true
text_d = is_utf8-from_IsUtf8 (100 ∷ []) (IsUtf8-from_ascii (100 ∷ []) (search (rules, arith)))

text_l : is_utf8 (108 ∷ []) ≡ true
text_l = is_utf8-from_IsUtf8 (108 ∷ []) (IsUtf8-from_ascii (108 ∷ []) (search (rules, arith)))

text_i : is_utf8 (105 ∷ []) ≡ true
text_i = is_utf8-from_IsUtf8 (105 ∷ []) (IsUtf8-from_ascii (105 ∷ []) (search (rules, arith)))

text_k : is_utf8 (107 ∷ []) ≡ true
text_k = is_utf8-from_IsUtf8 (107 ∷ []) (IsUtf8-from_ascii (107 ∷ []) (search (rules, arith)))

text_e : is_utf8 (101 ∷ []) ≡ true
text_e = is_utf8-from_IsUtf8 (101 ∷ []) (IsUtf8-from_ascii (101 ∷ []) (search (rules, arith)))

text_a : is_utf8 (97 ∷ []) ≡ true
text_a = is_utf8-from_IsUtf8 (97 ∷ []) (IsUtf8-from_ascii (97 ∷ []) (search (rules, arith)))

ascii_name_1 : IsAscii (116 ∷ 105 ∷ 101 ∷ 107 ∷ 118 ∷ 111 ∷ [])
ascii_name_1 = search (rules, arith)

ascii_name_2 : IsAscii (114 ∷ 110 ∷ 46 ∷ 102 ∷ 108 ∷ 111 ∷ [])
ascii_name_2 = search (rules, arith)

ascii_name_3 : IsAscii (97 ∷ 116 ∷ 51 ∷ 50 ∷ [])
ascii_name_3 = search (rules, arith)

text_name : is_utf8 (spec_float_name Single) ≡ true
text_name = is_utf8-from_IsUtf8 (spec_float_name Single) (IsUtf8-from_ascii (spec_float_name Single) (IsAscii-append (116 ∷ 105 ∷ 101 ∷ 107 ∷ 118 ∷ 111 ∷ []) (114 ∷ 110 ∷ 46 ∷ 102 ∷ 108 ∷ 111 ∷ 97 ∷ 116 ∷ 51 ∷ 50 ∷ []) ascii_name_1 (IsAscii-append (114 ∷ 110 ∷ 46 ∷ 102 ∷ 108 ∷ 111 ∷ []) (97 ∷ 116 ∷ 51 ∷ 50 ∷ []) ascii_name_2 ascii_name_3)))

-- ---- fields

abbrev pub precisions_metadata : List ℕ
precisions_metadata =
    16 ∷ 0 ∷ 0 ∷ 0 ∷ 0 ∷ 0 ∷ 10 ∷ 0 ∷ 12 ∷ 0 ∷ 6 ∷ 0 ∷ 5 ∷ 0 ∷ 8 ∷ 0 ∷ 10 ∷ 0 ∷ 0 ∷ 0 ∷ 0 ∷ 1 ∷ 4 ∷ 0 ∷ 4 ∷ 0 ∷ 0 ∷ 0 ∷ 172 ∷ 255 ∷ 255 ∷ 255 ∷ 4 ∷ 0 ∷ 0 ∷ 0 ∷ 5 ∷ 0 ∷ 0 ∷ 0 ∷ 40 ∷ 1 ∷ 0 ∷ 0 ∷ 232 ∷ 0 ∷ 0 ∷ 0 ∷ 188 ∷ 0 ∷ 0 ∷ 0 ∷ 104 ∷ 0 ∷ 0 ∷ 0 ∷ 20 ∷ 0 ∷ 0 ∷ 0 ∷ 16 ∷ 0 ∷ 24 ∷ 0 ∷ 8 ∷ 0 ∷ 6 ∷ 0 ∷ 7 ∷ 0 ∷ 12 ∷ 0 ∷ 16 ∷ 0 ∷ 20 ∷ 0 ∷ 16 ∷ 0 ∷ 0 ∷ 0 ∷ 0 ∷ 0 ∷ 1 ∷ 3 ∷ 20 ∷ 0 ∷ 0 ∷ 0 ∷ 60 ∷ 0 ∷ 0 ∷ 0 ∷ 28 ∷ 0 ∷ 0 ∷ 0 ∷ 4 ∷ 0 ∷ 0 ∷ 0 ∷ 0 ∷ 0 ∷ 0 ∷ 0 ∷ 1 ∷ 0 ∷ 0 ∷ 0 ∷ 107 ∷ 0 ∷ 0 ∷ 0 ∷ 8 ∷ 0 ∷ 8 ∷ 0 ∷ 0 ∷ 0 ∷ 4 ∷ 0 ∷ 8 ∷ 0 ∷ 0 ∷ 0 ∷ 12 ∷ 0 ∷ 0 ∷ 0 ∷ 8 ∷ 0 ∷ 12 ∷ 0 ∷ 8 ∷ 0 ∷ 7 ∷ 0 ∷ 8 ∷ 0 ∷ 0 ∷ 0 ∷ 0 ∷ 0 ∷ 0 ∷ 1 ∷ 8 ∷ 0 ∷ 0 ∷ 0 ∷ 98 ∷ 255 ∷ 255 ∷ 255 ∷ 0 ∷ 0 ∷ 1 ∷ 0 ∷ 92 ∷ 255 ∷ 255 ∷ 255 ∷ 0 ∷ 0 ∷ 1 ∷ 12 ∷ 20 ∷ 0 ∷ 0 ∷ 0 ∷ 24 ∷ 0 ∷ 0 ∷ 0 ∷ 4 ∷ 0 ∷ 0 ∷ 0 ∷ 1 ∷ 0 ∷ 0 ∷ 0 ∷ 16 ∷ 0 ∷ 0 ∷ 0 ∷ 1 ∷ 0 ∷ 0 ∷ 0 ∷ 108 ∷ 0 ∷ 0 ∷ 0 ∷ 80 ∷ 255 ∷ 255 ∷ 255 ∷ 132 ∷ 255 ∷ 255 ∷ 255 ∷ 0 ∷ 0 ∷ 1 ∷ 3 ∷ 16 ∷ 0 ∷ 0 ∷ 0 ∷ 20 ∷ 0 ∷ 0 ∷ 0 ∷ 4 ∷ 0 ∷ 0 ∷ 0 ∷ 0 ∷ 0 ∷ 0 ∷ 0 ∷ 1 ∷ 0 ∷ 0 ∷ 0 ∷ 105 ∷ 0 ∷ 0 ∷ 0 ∷ 178 ∷ 255 ∷ 255 ∷ 255 ∷ 0 ∷ 0 ∷ 2 ∷ 0 ∷ 172 ∷ 255 ∷ 255 ∷ 255 ∷ 0 ∷ 0 ∷ 1 ∷ 3 ∷ 16 ∷ 0 ∷ 0 ∷ 0 ∷ 20 ∷ 0 ∷ 0 ∷ 0 ∷ 4 ∷ 0 ∷ 0 ∷ 0 ∷ 0 ∷ 0 ∷ 0 ∷ 0 ∷ 1 ∷ 0 ∷ 0 ∷ 0 ∷ 100 ∷ 0 ∷ 0 ∷ 0 ∷ 218 ∷ 255 ∷ 255 ∷ 255 ∷ 0 ∷ 0 ∷ 2 ∷ 0 ∷ 212 ∷ 255 ∷ 255 ∷ 255 ∷ 0 ∷ 0 ∷ 1 ∷ 3 ∷ 16 ∷ 0 ∷ 0 ∷ 0 ∷ 24 ∷ 0 ∷ 0 ∷ 0 ∷ 4 ∷ 0 ∷ 0 ∷ 0 ∷ 0 ∷ 0 ∷ 0 ∷ 0 ∷ 1 ∷ 0 ∷ 0 ∷ 0 ∷ 102 ∷ 0 ∷ 6 ∷ 0 ∷ 8 ∷ 0 ∷ 6 ∷ 0 ∷ 6 ∷ 0 ∷ 0 ∷ 0 ∷ 0 ∷ 0 ∷ 1 ∷ 0 ∷ 16 ∷ 0 ∷ 20 ∷ 0 ∷ 8 ∷ 0 ∷ 6 ∷ 0 ∷ 7 ∷ 0 ∷ 12 ∷ 0 ∷ 0 ∷ 0 ∷ 16 ∷ 0 ∷ 16 ∷ 0 ∷ 0 ∷ 0 ∷ 0 ∷ 0 ∷ 1 ∷ 3 ∷ 16 ∷ 0 ∷ 0 ∷ 0 ∷ 24 ∷ 0 ∷ 0 ∷ 0 ∷ 4 ∷ 0 ∷ 0 ∷ 0 ∷ 0 ∷ 0 ∷ 0 ∷ 0 ∷ 1 ∷ 0 ∷ 0 ∷ 0 ∷ 104 ∷ 0 ∷ 0 ∷ 0 ∷ 4 ∷ 0 ∷ 4 ∷ 0 ∷ 4 ∷ 0 ∷ 0 ∷ 0 ∷ []

half_is : HasField precisions_metadata 336 (104 ∷ []) (spec_float_type Half) 175
unfolding spec_offset_at spec_back_from spec_table_at spec_field_position spec_charge_budget spec_read_table spec_read_vector spec_read_string spec_items_at spec_str_at spec_pair_at spec_metadata_at spec_bare_at spec_integer_at spec_float_at spec_key_at spec_encoding_at spec_field_at tables_at tables_in_turn
half_is = rw text_h refl

single_is : HasField precisions_metadata 276 (102 ∷ []) (spec_float_type Single) 175
unfolding spec_offset_at spec_back_from spec_table_at spec_field_position spec_charge_budget spec_read_table spec_read_vector spec_read_string spec_items_at spec_str_at spec_pair_at spec_metadata_at spec_bare_at spec_integer_at spec_float_at spec_key_at spec_encoding_at spec_field_at tables_at tables_in_turn
single_is = rw text_f refl

double_is : HasField precisions_metadata 236 (100 ∷ []) (spec_float_type Double) 175
unfolding spec_offset_at spec_back_from spec_table_at spec_field_position spec_charge_budget spec_read_table spec_read_vector spec_read_string spec_items_at spec_str_at spec_pair_at spec_metadata_at spec_bare_at spec_integer_at spec_float_at spec_key_at spec_encoding_at spec_field_at tables_at tables_in_turn
double_is = rw text_d refl

-- a list of doubles
list_is : HasField precisions_metadata 156 (108 ∷ []) (types.list (field (105 ∷ []) (spec_float_type Double) true [])) 146
unfolding spec_offset_at spec_back_from spec_table_at spec_field_position spec_charge_budget spec_read_table spec_read_vector spec_read_string spec_items_at spec_str_at spec_pair_at spec_metadata_at spec_bare_at spec_integer_at spec_float_at spec_key_at spec_encoding_at spec_field_at tables_at tables_in_turn
list_is = rw (text_l, text_i) refl

-- a dictionary of singles, whose values have the type of their bits
abbrev pub AreKeyedFloats : Type 0
AreKeyedFloats = spec_field_at 64 precisions_metadata 76 (progress 200 no_dictionaries) ≡ Ok (field (107 ∷ []) (types.dictionary Int8 (spec_float_type Single) false) true [], progress 159 (record { ids = pos 0 ∷ []; named = (pos 0, record { values = types.uint32; inside = [] }) ∷ [] }))

keyed_are : AreKeyedFloats
unfolding spec_offset_at spec_back_from spec_table_at spec_field_position spec_charge_budget spec_read_table spec_read_vector spec_read_string spec_items_at spec_str_at spec_pair_at spec_metadata_at spec_bare_at spec_integer_at spec_float_at spec_key_at spec_encoding_at spec_field_at tables_at tables_in_turn
keyed_are = rw text_k refl

-- an extension type of singles, and a field of integers that names the type of singles
abbrev pub named_metadata : List ℕ
named_metadata =
    16 ∷ 0 ∷ 0 ∷ 0 ∷ 0 ∷ 0 ∷ 10 ∷ 0 ∷ 12 ∷ 0 ∷ 6 ∷ 0 ∷ 5 ∷ 0 ∷ 8 ∷ 0 ∷ 10 ∷ 0 ∷ 0 ∷ 0 ∷ 0 ∷ 1 ∷ 4 ∷ 0 ∷ 12 ∷ 0 ∷ 0 ∷ 0 ∷ 8 ∷ 0 ∷ 8 ∷ 0 ∷ 0 ∷ 0 ∷ 4 ∷ 0 ∷ 8 ∷ 0 ∷ 0 ∷ 0 ∷ 4 ∷ 0 ∷ 0 ∷ 0 ∷ 2 ∷ 0 ∷ 0 ∷ 0 ∷ 128 ∷ 0 ∷ 0 ∷ 0 ∷ 4 ∷ 0 ∷ 0 ∷ 0 ∷ 154 ∷ 255 ∷ 255 ∷ 255 ∷ 0 ∷ 0 ∷ 1 ∷ 3 ∷ 20 ∷ 0 ∷ 0 ∷ 0 ∷ 84 ∷ 0 ∷ 0 ∷ 0 ∷ 8 ∷ 0 ∷ 0 ∷ 0 ∷ 16 ∷ 0 ∷ 0 ∷ 0 ∷ 0 ∷ 0 ∷ 0 ∷ 0 ∷ 1 ∷ 0 ∷ 0 ∷ 0 ∷ 101 ∷ 0 ∷ 0 ∷ 0 ∷ 1 ∷ 0 ∷ 0 ∷ 0 ∷ 4 ∷ 0 ∷ 0 ∷ 0 ∷ 136 ∷ 255 ∷ 255 ∷ 255 ∷ 16 ∷ 0 ∷ 0 ∷ 0 ∷ 4 ∷ 0 ∷ 0 ∷ 0 ∷ 1 ∷ 0 ∷ 0 ∷ 0 ∷ 101 ∷ 0 ∷ 0 ∷ 0 ∷ 20 ∷ 0 ∷ 0 ∷ 0 ∷ 65 ∷ 82 ∷ 82 ∷ 79 ∷ 87 ∷ 58 ∷ 101 ∷ 120 ∷ 116 ∷ 101 ∷ 110 ∷ 115 ∷ 105 ∷ 111 ∷ 110 ∷ 58 ∷ 110 ∷ 97 ∷ 109 ∷ 101 ∷ 0 ∷ 0 ∷ 6 ∷ 0 ∷ 6 ∷ 0 ∷ 4 ∷ 0 ∷ 6 ∷ 0 ∷ 0 ∷ 0 ∷ 1 ∷ 0 ∷ 18 ∷ 0 ∷ 24 ∷ 0 ∷ 8 ∷ 0 ∷ 6 ∷ 0 ∷ 7 ∷ 0 ∷ 12 ∷ 0 ∷ 0 ∷ 0 ∷ 16 ∷ 0 ∷ 20 ∷ 0 ∷ 18 ∷ 0 ∷ 0 ∷ 0 ∷ 0 ∷ 0 ∷ 1 ∷ 2 ∷ 20 ∷ 0 ∷ 0 ∷ 0 ∷ 108 ∷ 0 ∷ 0 ∷ 0 ∷ 8 ∷ 0 ∷ 0 ∷ 0 ∷ 16 ∷ 0 ∷ 0 ∷ 0 ∷ 0 ∷ 0 ∷ 0 ∷ 0 ∷ 1 ∷ 0 ∷ 0 ∷ 0 ∷ 97 ∷ 0 ∷ 0 ∷ 0 ∷ 1 ∷ 0 ∷ 0 ∷ 0 ∷ 12 ∷ 0 ∷ 0 ∷ 0 ∷ 8 ∷ 0 ∷ 12 ∷ 0 ∷ 4 ∷ 0 ∷ 8 ∷ 0 ∷ 8 ∷ 0 ∷ 0 ∷ 0 ∷ 32 ∷ 0 ∷ 0 ∷ 0 ∷ 4 ∷ 0 ∷ 0 ∷ 0 ∷ 16 ∷ 0 ∷ 0 ∷ 0 ∷ 116 ∷ 105 ∷ 101 ∷ 107 ∷ 118 ∷ 111 ∷ 114 ∷ 110 ∷ 46 ∷ 102 ∷ 108 ∷ 111 ∷ 97 ∷ 116 ∷ 51 ∷ 50 ∷ 0 ∷ 0 ∷ 0 ∷ 0 ∷ 20 ∷ 0 ∷ 0 ∷ 0 ∷ 65 ∷ 82 ∷ 82 ∷ 79 ∷ 87 ∷ 58 ∷ 101 ∷ 120 ∷ 116 ∷ 101 ∷ 110 ∷ 115 ∷ 105 ∷ 111 ∷ 110 ∷ 58 ∷ 110 ∷ 97 ∷ 109 ∷ 101 ∷ 0 ∷ 0 ∷ 6 ∷ 0 ∷ 8 ∷ 0 ∷ 4 ∷ 0 ∷ 6 ∷ 0 ∷ 0 ∷ 0 ∷ 32 ∷ 0 ∷ 0 ∷ 0 ∷ []

abbrev pub IsStorage : Type 0
IsStorage = spec_field_at 64 named_metadata 56 (progress 200 no_dictionaries) ≡ Ok (field (101 ∷ []) (types.extension (101 ∷ []) (spec_float_type Single) None) true [], progress 130 no_dictionaries)

storage_is : IsStorage
unfolding spec_offset_at spec_back_from spec_table_at spec_field_position spec_charge_budget spec_read_table spec_read_vector spec_read_string spec_items_at spec_str_at spec_pair_at spec_metadata_at spec_bare_at spec_integer_at spec_float_at spec_key_at spec_encoding_at spec_field_at tables_at tables_in_turn
storage_is = rw (text_e, text_name_key, text_e) refl

abbrev pub IsReserved : Type 0
IsReserved = spec_field_at 64 named_metadata 176 (progress 200 no_dictionaries) ≡ Err UnsupportedType

reserved_is : IsReserved
unfolding spec_offset_at spec_back_from spec_table_at spec_field_position spec_charge_budget spec_read_table spec_read_vector spec_read_string spec_items_at spec_str_at spec_pair_at spec_metadata_at spec_bare_at spec_integer_at spec_float_at spec_key_at spec_encoding_at spec_field_at tables_at tables_in_turn
reserved_is = rw (text_a, text_name_key, text_name) refl

abbrev pub AreFloats : Type 0
AreFloats = HasField precisions_metadata 336 (104 ∷ []) (spec_float_type Half) 175
    × HasField precisions_metadata 276 (102 ∷ []) (spec_float_type Single) 175
    × HasField precisions_metadata 236 (100 ∷ []) (spec_float_type Double) 175
    × HasField precisions_metadata 156 (108 ∷ []) (types.list (field (105 ∷ []) (spec_float_type Double) true [])) 146
    × AreKeyedFloats
    × IsStorage

pub are_floats : AreFloats
are_floats = (half_is, single_is, double_is, list_is, keyed_are, storage_is)

pub is_reserved : IsReserved
is_reserved = reserved_is

-- ---- bytes, by hand from the format

abbrev pub single : FieldTree
single = field (102 ∷ []) (spec_float_type Single) true []

abbrev pub single_bytes : List ℕ
single_bytes =
    18 ∷ 0 ∷ 24 ∷ 0 ∷ 4 ∷ 0 ∷ 20 ∷ 0 ∷ 21 ∷ 0 ∷ 8 ∷ 0 ∷ 0 ∷ 0 ∷ 12 ∷ 0 ∷ 16 ∷ 0 ∷ 0 ∷ 0 ∷ 0 ∷ 0 ∷ 0 ∷ 0 ∷ 24 ∷ 0 ∷ 0 ∷ 0 ∷ 52 ∷ 0 ∷ 0 ∷ 0 ∷ 28 ∷ 0 ∷ 0 ∷ 0 ∷ 36 ∷ 0 ∷ 0 ∷ 0 ∷ 48 ∷ 0 ∷ 0 ∷ 0 ∷ 1 ∷ 3 ∷ 0 ∷ 0 ∷ 6 ∷ 0 ∷ 8 ∷ 0 ∷ 4 ∷ 0 ∷ 0 ∷ 0 ∷ 0 ∷ 0 ∷ 0 ∷ 0 ∷ 12 ∷ 0 ∷ 0 ∷ 0 ∷ 1 ∷ 0 ∷ 0 ∷ 0 ∷ 0 ∷ 0 ∷ 0 ∷ 0 ∷ 0 ∷ 0 ∷ 0 ∷ 0 ∷ 0 ∷ 0 ∷ 0 ∷ 0 ∷ 1 ∷ 0 ∷ 0 ∷ 0 ∷ 102 ∷ 0 ∷ 0 ∷ 0 ∷ 0 ∷ 0 ∷ 0 ∷ 0 ∷ 0 ∷ 0 ∷ 0 ∷ 0 ∷ []

abbrev pub AreSingleBytes : Type 0
AreSingleBytes = field_bytes 64 0 single ≡ single_bytes

pub are_single_bytes : AreSingleBytes
unfolding each_from count_dictionaries total u32_bytes string_bytes offsets concatenated table_vector_bytes one_field float_bytes type_bytes spec_type_number pair_bytes field_vtable field_head field_parts field_bytes
are_single_bytes = refl

-- ---- what can be written

abbrev pub named_as : TypeTree → FieldTree
named_as type = field [] type true []

-- the name of singles over other storage, or with metadata
abbrev pub integers : TypeTree
integers = types.extension (spec_float_name Single) types.int32 None

abbrev pub described : TypeTree
described = types.extension (spec_float_name Single) types.uint32 (Some [])

abbrev pub AreCheckedFloats : Type 0
AreCheckedFloats = (spec_check_field 64 (named_as (spec_float_type Half)) ≡ Ok tt)
    × (spec_check_field 64 (named_as (types.dictionary Int8 (spec_float_type Double) false)) ≡ Ok tt)
    × (spec_check_field 64 (named_as (types.extension [] (spec_float_type Single) None)) ≡ Ok tt)
    × (spec_check_field 64 (named_as integers) ≡ Err reasons.Extension)
    × (spec_check_field 64 (named_as described) ≡ Err reasons.Extension)
    × (spec_check_field 64 (named_as types.float32) ≡ Err reasons.Float)

pub are_checked_floats : AreCheckedFloats
unfolding spec_check_own spec_check_each spec_check_field
are_checked_floats = (refl, refl, refl, refl, refl, refl)
