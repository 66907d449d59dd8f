-- Worked examples: the bytes of fields of extension types, one of another writer, and a list of an extension type.
use Rattle.std.specs.Prelude.{◌≡◌, ℕ, true, false, List, [], ◌∷◌, None, Some, Ok, Err, refl}
use Rattle.std.specs.Str.{is_utf8, IsAscii}
use Rattle.std.proofs.Common.{rules, arith}
use Rattle.std.proofs.lemmas.Str.{IsUtf8-from_ascii, IsAscii-append, is_utf8-from_IsUtf8}
use Rattle.nest_memory.specs.TypeTree as types
use Rattle.nest_memory.specs.TypeTree.{FieldTree, field, no_fields, more_fields}
use Rattle.ipc_flatbuf.specs.declared.error.IpcReadError.TheVariants.{MapEntries}
use Rattle.ipc_flatbuf.specs.Flatbuffers.{spec_offset_at, spec_back_from, spec_table_at, spec_field_position, spec_charge_budget, spec_read_table, spec_read_vector, spec_read_string, tables_at, spec_items_at, spec_str_at}
use Rattle.ipc_schema.specs.Types.{spec_bare_at, spec_integer_at, spec_fixed_size_binary_at, map_of}
use Rattle.ipc_schema.specs.Extensions.{extension_name, extension_metadata, field_with_metadata}
use Rattle.ipc_schema.specs.Dictionaries.{no_dictionaries, progress}
use Rattle.ipc_schema.specs.FieldVectors.{tables_in_turn}
use Rattle.ipc_schema.specs.Schemas.{spec_pair_at, spec_metadata_at, spec_field_at}

-- ---- strings

text_a : is_utf8 (97 ∷ []) ≡ true
text_a = is_utf8-from_IsUtf8 (97 ∷ []) (IsUtf8-from_ascii (97 ∷ []) (search (rules, arith)))

text_b : is_utf8 (98 ∷ []) ≡ true
text_b = is_utf8-from_IsUtf8 (98 ∷ []) (IsUtf8-from_ascii (98 ∷ []) (search (rules, arith)))

text_uuid : is_utf8 (117 ∷ 117 ∷ 105 ∷ 100 ∷ []) ≡ true
text_uuid = is_utf8-from_IsUtf8 (117 ∷ 117 ∷ 105 ∷ 100 ∷ []) (IsUtf8-from_ascii (117 ∷ 117 ∷ 105 ∷ 100 ∷ []) (search (rules, arith)))

text_i : is_utf8 (105 ∷ []) ≡ true
text_i = is_utf8-from_IsUtf8 (105 ∷ []) (IsUtf8-from_ascii (105 ∷ []) (search (rules, arith)))

text_own : is_utf8 (111 ∷ 119 ∷ 110 ∷ []) ≡ true
text_own = is_utf8-from_IsUtf8 (111 ∷ 119 ∷ 110 ∷ []) (IsUtf8-from_ascii (111 ∷ 119 ∷ 110 ∷ []) (search (rules, arith)))

text_kept : is_utf8 (107 ∷ 101 ∷ 112 ∷ 116 ∷ []) ≡ true
text_kept = is_utf8-from_IsUtf8 (107 ∷ 101 ∷ 112 ∷ 116 ∷ []) (IsUtf8-from_ascii (107 ∷ 101 ∷ 112 ∷ 116 ∷ []) (search (rules, arith)))

text_e : is_utf8 (101 ∷ []) ≡ true
text_e = is_utf8-from_IsUtf8 (101 ∷ []) (IsUtf8-from_ascii (101 ∷ []) (search (rules, arith)))

ascii_name_key_1 : IsAscii (65 ∷ 82 ∷ 82 ∷ 79 ∷ 87 ∷ 58 ∷ [])
ascii_name_key_1 = search (rules, arith)

ascii_name_key_2 : IsAscii (101 ∷ 120 ∷ 116 ∷ 101 ∷ 110 ∷ 115 ∷ [])
ascii_name_key_2 = search (rules, arith)

ascii_name_key_3 : IsAscii (105 ∷ 111 ∷ 110 ∷ 58 ∷ 110 ∷ 97 ∷ [])
ascii_name_key_3 = search (rules, arith)

ascii_name_key_4 : IsAscii (109 ∷ 101 ∷ [])
ascii_name_key_4 = search (rules, arith)

pub text_name_key : is_utf8 extension_name ≡ true
text_name_key = is_utf8-from_IsUtf8 extension_name (IsUtf8-from_ascii extension_name (IsAscii-append (65 ∷ 82 ∷ 82 ∷ 79 ∷ 87 ∷ 58 ∷ []) (101 ∷ 120 ∷ 116 ∷ 101 ∷ 110 ∷ 115 ∷ 105 ∷ 111 ∷ 110 ∷ 58 ∷ 110 ∷ 97 ∷ 109 ∷ 101 ∷ []) ascii_name_key_1 (IsAscii-append (101 ∷ 120 ∷ 116 ∷ 101 ∷ 110 ∷ 115 ∷ []) (105 ∷ 111 ∷ 110 ∷ 58 ∷ 110 ∷ 97 ∷ 109 ∷ 101 ∷ []) ascii_name_key_2 (IsAscii-append (105 ∷ 111 ∷ 110 ∷ 58 ∷ 110 ∷ 97 ∷ []) (109 ∷ 101 ∷ []) ascii_name_key_3 ascii_name_key_4))))

ascii_text_key_1 : IsAscii (65 ∷ 82 ∷ 82 ∷ 79 ∷ 87 ∷ 58 ∷ [])
ascii_text_key_1 = search (rules, arith)

ascii_text_key_2 : IsAscii (101 ∷ 120 ∷ 116 ∷ 101 ∷ 110 ∷ 115 ∷ [])
ascii_text_key_2 = search (rules, arith)

ascii_text_key_3 : IsAscii (105 ∷ 111 ∷ 110 ∷ 58 ∷ 109 ∷ 101 ∷ [])
ascii_text_key_3 = search (rules, arith)

ascii_text_key_4 : IsAscii (116 ∷ 97 ∷ 100 ∷ 97 ∷ 116 ∷ 97 ∷ [])
ascii_text_key_4 = search (rules, arith)

text_text_key : is_utf8 extension_metadata ≡ true
text_text_key = is_utf8-from_IsUtf8 extension_metadata (IsUtf8-from_ascii extension_metadata (IsAscii-append (65 ∷ 82 ∷ 82 ∷ 79 ∷ 87 ∷ 58 ∷ []) (101 ∷ 120 ∷ 116 ∷ 101 ∷ 110 ∷ 115 ∷ 105 ∷ 111 ∷ 110 ∷ 58 ∷ 109 ∷ 101 ∷ 116 ∷ 97 ∷ 100 ∷ 97 ∷ 116 ∷ 97 ∷ []) ascii_text_key_1 (IsAscii-append (101 ∷ 120 ∷ 116 ∷ 101 ∷ 110 ∷ 115 ∷ []) (105 ∷ 111 ∷ 110 ∷ 58 ∷ 109 ∷ 101 ∷ 116 ∷ 97 ∷ 100 ∷ 97 ∷ 116 ∷ 97 ∷ []) ascii_text_key_2 (IsAscii-append (105 ∷ 111 ∷ 110 ∷ 58 ∷ 109 ∷ 101 ∷ []) (116 ∷ 97 ∷ 100 ∷ 97 ∷ 116 ∷ 97 ∷ []) ascii_text_key_3 ascii_text_key_4))))

text_empty : is_utf8 [] ≡ true
text_empty = is_utf8-from_IsUtf8 [] (IsUtf8-from_ascii [] (search (rules, arith)))

-- ---- fields

abbrev pub extension_bytes : List ℕ
extension_bytes =
    16 ∷ 0 ∷ 0 ∷ 0 ∷ 10 ∷ 0 ∷ 11 ∷ 0 ∷ 8 ∷ 0 ∷ 10 ∷ 0 ∷ 4 ∷ 0 ∷ 0 ∷ 0 ∷ 12 ∷ 0 ∷ 0 ∷ 0 ∷ 16 ∷ 0 ∷ 0 ∷ 0 ∷ 4 ∷ 0 ∷ 1 ∷ 0 ∷ 8 ∷ 0 ∷ 8 ∷ 0 ∷ 0 ∷ 0 ∷ 4 ∷ 0 ∷ 8 ∷ 0 ∷ 0 ∷ 0 ∷ 4 ∷ 0 ∷ 0 ∷ 0 ∷ 3 ∷ 0 ∷ 0 ∷ 0 ∷ 32 ∷ 0 ∷ 0 ∷ 0 ∷ 236 ∷ 0 ∷ 0 ∷ 0 ∷ 16 ∷ 2 ∷ 0 ∷ 0 ∷ 18 ∷ 0 ∷ 22 ∷ 0 ∷ 4 ∷ 0 ∷ 20 ∷ 0 ∷ 21 ∷ 0 ∷ 8 ∷ 0 ∷ 0 ∷ 0 ∷ 12 ∷ 0 ∷ 16 ∷ 0 ∷ 0 ∷ 0 ∷ 20 ∷ 0 ∷ 0 ∷ 0 ∷ 20 ∷ 0 ∷ 0 ∷ 0 ∷ 28 ∷ 0 ∷ 0 ∷ 0 ∷ 32 ∷ 0 ∷ 0 ∷ 0 ∷ 32 ∷ 0 ∷ 0 ∷ 0 ∷ 1 ∷ 15 ∷ 0 ∷ 0 ∷ 1 ∷ 0 ∷ 0 ∷ 0 ∷ 97 ∷ 0 ∷ 6 ∷ 0 ∷ 8 ∷ 0 ∷ 4 ∷ 0 ∷ 6 ∷ 0 ∷ 0 ∷ 0 ∷ 2 ∷ 0 ∷ 0 ∷ 0 ∷ 0 ∷ 0 ∷ 0 ∷ 0 ∷ 3 ∷ 0 ∷ 0 ∷ 0 ∷ 20 ∷ 0 ∷ 0 ∷ 0 ∷ 68 ∷ 0 ∷ 0 ∷ 0 ∷ 116 ∷ 0 ∷ 0 ∷ 0 ∷ 8 ∷ 0 ∷ 12 ∷ 0 ∷ 4 ∷ 0 ∷ 8 ∷ 0 ∷ 8 ∷ 0 ∷ 0 ∷ 0 ∷ 8 ∷ 0 ∷ 0 ∷ 0 ∷ 36 ∷ 0 ∷ 0 ∷ 0 ∷ 24 ∷ 0 ∷ 0 ∷ 0 ∷ 65 ∷ 82 ∷ 82 ∷ 79 ∷ 87 ∷ 58 ∷ 101 ∷ 120 ∷ 116 ∷ 101 ∷ 110 ∷ 115 ∷ 105 ∷ 111 ∷ 110 ∷ 58 ∷ 109 ∷ 101 ∷ 116 ∷ 97 ∷ 100 ∷ 97 ∷ 116 ∷ 97 ∷ 0 ∷ 0 ∷ 0 ∷ 0 ∷ 0 ∷ 0 ∷ 0 ∷ 0 ∷ 0 ∷ 0 ∷ 0 ∷ 0 ∷ 60 ∷ 0 ∷ 0 ∷ 0 ∷ 8 ∷ 0 ∷ 0 ∷ 0 ∷ 32 ∷ 0 ∷ 0 ∷ 0 ∷ 20 ∷ 0 ∷ 0 ∷ 0 ∷ 65 ∷ 82 ∷ 82 ∷ 79 ∷ 87 ∷ 58 ∷ 101 ∷ 120 ∷ 116 ∷ 101 ∷ 110 ∷ 115 ∷ 105 ∷ 111 ∷ 110 ∷ 58 ∷ 110 ∷ 97 ∷ 109 ∷ 101 ∷ 0 ∷ 0 ∷ 0 ∷ 0 ∷ 4 ∷ 0 ∷ 0 ∷ 0 ∷ 117 ∷ 117 ∷ 105 ∷ 100 ∷ 0 ∷ 0 ∷ 0 ∷ 0 ∷ 112 ∷ 0 ∷ 0 ∷ 0 ∷ 8 ∷ 0 ∷ 0 ∷ 0 ∷ 12 ∷ 0 ∷ 0 ∷ 0 ∷ 3 ∷ 0 ∷ 0 ∷ 0 ∷ 111 ∷ 119 ∷ 110 ∷ 0 ∷ 4 ∷ 0 ∷ 0 ∷ 0 ∷ 107 ∷ 101 ∷ 112 ∷ 116 ∷ 0 ∷ 0 ∷ 0 ∷ 0 ∷ 228 ∷ 0 ∷ 0 ∷ 0 ∷ 20 ∷ 0 ∷ 0 ∷ 0 ∷ 28 ∷ 0 ∷ 0 ∷ 0 ∷ 28 ∷ 0 ∷ 0 ∷ 0 ∷ 208 ∷ 0 ∷ 0 ∷ 0 ∷ 1 ∷ 12 ∷ 0 ∷ 0 ∷ 1 ∷ 0 ∷ 0 ∷ 0 ∷ 98 ∷ 0 ∷ 4 ∷ 0 ∷ 4 ∷ 0 ∷ 0 ∷ 0 ∷ 6 ∷ 0 ∷ 0 ∷ 0 ∷ 1 ∷ 0 ∷ 0 ∷ 0 ∷ 4 ∷ 0 ∷ 0 ∷ 0 ∷ 20 ∷ 1 ∷ 0 ∷ 0 ∷ 20 ∷ 0 ∷ 0 ∷ 0 ∷ 36 ∷ 0 ∷ 0 ∷ 0 ∷ 44 ∷ 0 ∷ 0 ∷ 0 ∷ 44 ∷ 0 ∷ 0 ∷ 0 ∷ 1 ∷ 2 ∷ 0 ∷ 0 ∷ 4 ∷ 0 ∷ 0 ∷ 0 ∷ 105 ∷ 116 ∷ 101 ∷ 109 ∷ 0 ∷ 0 ∷ 8 ∷ 0 ∷ 9 ∷ 0 ∷ 4 ∷ 0 ∷ 8 ∷ 0 ∷ 0 ∷ 0 ∷ 10 ∷ 0 ∷ 0 ∷ 0 ∷ 32 ∷ 0 ∷ 0 ∷ 0 ∷ 1 ∷ 0 ∷ 0 ∷ 0 ∷ 0 ∷ 0 ∷ 0 ∷ 0 ∷ 2 ∷ 0 ∷ 0 ∷ 0 ∷ 8 ∷ 0 ∷ 0 ∷ 0 ∷ 56 ∷ 0 ∷ 0 ∷ 0 ∷ 8 ∷ 1 ∷ 0 ∷ 0 ∷ 8 ∷ 0 ∷ 0 ∷ 0 ∷ 36 ∷ 0 ∷ 0 ∷ 0 ∷ 24 ∷ 0 ∷ 0 ∷ 0 ∷ 65 ∷ 82 ∷ 82 ∷ 79 ∷ 87 ∷ 58 ∷ 101 ∷ 120 ∷ 116 ∷ 101 ∷ 110 ∷ 115 ∷ 105 ∷ 111 ∷ 110 ∷ 58 ∷ 109 ∷ 101 ∷ 116 ∷ 97 ∷ 100 ∷ 97 ∷ 116 ∷ 97 ∷ 0 ∷ 0 ∷ 0 ∷ 0 ∷ 1 ∷ 0 ∷ 0 ∷ 0 ∷ 109 ∷ 0 ∷ 0 ∷ 0 ∷ 60 ∷ 1 ∷ 0 ∷ 0 ∷ 8 ∷ 0 ∷ 0 ∷ 0 ∷ 32 ∷ 0 ∷ 0 ∷ 0 ∷ 20 ∷ 0 ∷ 0 ∷ 0 ∷ 65 ∷ 82 ∷ 82 ∷ 79 ∷ 87 ∷ 58 ∷ 101 ∷ 120 ∷ 116 ∷ 101 ∷ 110 ∷ 115 ∷ 105 ∷ 111 ∷ 110 ∷ 58 ∷ 110 ∷ 97 ∷ 109 ∷ 101 ∷ 0 ∷ 0 ∷ 0 ∷ 0 ∷ 5 ∷ 0 ∷ 0 ∷ 0 ∷ 105 ∷ 110 ∷ 110 ∷ 101 ∷ 114 ∷ 0 ∷ 0 ∷ 0 ∷ 1 ∷ 0 ∷ 0 ∷ 0 ∷ 4 ∷ 0 ∷ 0 ∷ 0 ∷ 120 ∷ 1 ∷ 0 ∷ 0 ∷ 8 ∷ 0 ∷ 0 ∷ 0 ∷ 32 ∷ 0 ∷ 0 ∷ 0 ∷ 20 ∷ 0 ∷ 0 ∷ 0 ∷ 65 ∷ 82 ∷ 82 ∷ 79 ∷ 87 ∷ 58 ∷ 101 ∷ 120 ∷ 116 ∷ 101 ∷ 110 ∷ 115 ∷ 105 ∷ 111 ∷ 110 ∷ 58 ∷ 110 ∷ 97 ∷ 109 ∷ 101 ∷ 0 ∷ 0 ∷ 0 ∷ 0 ∷ 1 ∷ 0 ∷ 0 ∷ 0 ∷ 101 ∷ 0 ∷ 18 ∷ 0 ∷ 26 ∷ 0 ∷ 4 ∷ 0 ∷ 24 ∷ 0 ∷ 25 ∷ 0 ∷ 8 ∷ 0 ∷ 12 ∷ 0 ∷ 16 ∷ 0 ∷ 20 ∷ 0 ∷ 18 ∷ 0 ∷ 0 ∷ 0 ∷ 24 ∷ 0 ∷ 0 ∷ 0 ∷ 28 ∷ 0 ∷ 0 ∷ 0 ∷ 28 ∷ 0 ∷ 0 ∷ 0 ∷ 44 ∷ 0 ∷ 0 ∷ 0 ∷ 44 ∷ 0 ∷ 0 ∷ 0 ∷ 1 ∷ 5 ∷ 0 ∷ 0 ∷ 1 ∷ 0 ∷ 0 ∷ 0 ∷ 99 ∷ 0 ∷ 0 ∷ 0 ∷ 46 ∷ 1 ∷ 0 ∷ 0 ∷ 84 ∷ 2 ∷ 0 ∷ 0 ∷ 4 ∷ 0 ∷ 0 ∷ 0 ∷ 6 ∷ 1 ∷ 0 ∷ 0 ∷ 8 ∷ 0 ∷ 0 ∷ 0 ∷ 1 ∷ 0 ∷ 0 ∷ 0 ∷ 0 ∷ 0 ∷ 0 ∷ 0 ∷ 2 ∷ 0 ∷ 0 ∷ 0 ∷ 8 ∷ 0 ∷ 0 ∷ 0 ∷ 64 ∷ 0 ∷ 0 ∷ 0 ∷ 4 ∷ 2 ∷ 0 ∷ 0 ∷ 8 ∷ 0 ∷ 0 ∷ 0 ∷ 36 ∷ 0 ∷ 0 ∷ 0 ∷ 24 ∷ 0 ∷ 0 ∷ 0 ∷ 65 ∷ 82 ∷ 82 ∷ 79 ∷ 87 ∷ 58 ∷ 101 ∷ 120 ∷ 116 ∷ 101 ∷ 110 ∷ 115 ∷ 105 ∷ 111 ∷ 110 ∷ 58 ∷ 109 ∷ 101 ∷ 116 ∷ 97 ∷ 100 ∷ 97 ∷ 116 ∷ 97 ∷ 0 ∷ 0 ∷ 0 ∷ 0 ∷ 8 ∷ 0 ∷ 0 ∷ 0 ∷ 123 ∷ 34 ∷ 97 ∷ 34 ∷ 58 ∷ 32 ∷ 49 ∷ 125 ∷ 0 ∷ 0 ∷ 0 ∷ 0 ∷ 64 ∷ 2 ∷ 0 ∷ 0 ∷ 8 ∷ 0 ∷ 0 ∷ 0 ∷ 32 ∷ 0 ∷ 0 ∷ 0 ∷ 20 ∷ 0 ∷ 0 ∷ 0 ∷ 65 ∷ 82 ∷ 82 ∷ 79 ∷ 87 ∷ 58 ∷ 101 ∷ 120 ∷ 116 ∷ 101 ∷ 110 ∷ 115 ∷ 105 ∷ 111 ∷ 110 ∷ 58 ∷ 110 ∷ 97 ∷ 109 ∷ 101 ∷ 0 ∷ 0 ∷ 0 ∷ 0 ∷ 5 ∷ 0 ∷ 0 ∷ 0 ∷ 99 ∷ 111 ∷ 108 ∷ 111 ∷ 114 ∷ 0 ∷ 0 ∷ 0 ∷ 0 ∷ 0 ∷ 0 ∷ 0 ∷ []

abbrev pub bytes_field : FieldTree
bytes_field = field (97 ∷ []) (types.extension (117 ∷ 117 ∷ 105 ∷ 100 ∷ []) (types.fixed_size_binary 2) (Some [])) true ((111 ∷ 119 ∷ 110 ∷ [], 107 ∷ 101 ∷ 112 ∷ 116 ∷ []) ∷ [])

-- a list of an extension type, written by hand
abbrev pub inner_bytes : List ℕ
inner_bytes =
    24 ∷ 0 ∷ 0 ∷ 0 ∷ 0 ∷ 0 ∷ 0 ∷ 0 ∷ 0 ∷ 0 ∷ 0 ∷ 0 ∷ 0 ∷ 0 ∷ 10 ∷ 0 ∷ 11 ∷ 0 ∷ 8 ∷ 0 ∷ 10 ∷ 0 ∷ 4 ∷ 0 ∷ 10 ∷ 0 ∷ 0 ∷ 0 ∷ 20 ∷ 0 ∷ 0 ∷ 0 ∷ 4 ∷ 0 ∷ 1 ∷ 0 ∷ 0 ∷ 0 ∷ 0 ∷ 0 ∷ 8 ∷ 0 ∷ 8 ∷ 0 ∷ 0 ∷ 0 ∷ 4 ∷ 0 ∷ 8 ∷ 0 ∷ 0 ∷ 0 ∷ 4 ∷ 0 ∷ 0 ∷ 0 ∷ 1 ∷ 0 ∷ 0 ∷ 0 ∷ 28 ∷ 0 ∷ 0 ∷ 0 ∷ 0 ∷ 0 ∷ 0 ∷ 0 ∷ 0 ∷ 0 ∷ 18 ∷ 0 ∷ 18 ∷ 0 ∷ 4 ∷ 0 ∷ 16 ∷ 0 ∷ 17 ∷ 0 ∷ 8 ∷ 0 ∷ 0 ∷ 0 ∷ 12 ∷ 0 ∷ 0 ∷ 0 ∷ 18 ∷ 0 ∷ 0 ∷ 0 ∷ 16 ∷ 0 ∷ 0 ∷ 0 ∷ 32 ∷ 0 ∷ 0 ∷ 0 ∷ 32 ∷ 0 ∷ 0 ∷ 0 ∷ 1 ∷ 12 ∷ 0 ∷ 0 ∷ 1 ∷ 0 ∷ 0 ∷ 0 ∷ 98 ∷ 0 ∷ 0 ∷ 0 ∷ 0 ∷ 0 ∷ 0 ∷ 0 ∷ 0 ∷ 0 ∷ 0 ∷ 0 ∷ 4 ∷ 0 ∷ 4 ∷ 0 ∷ 4 ∷ 0 ∷ 0 ∷ 0 ∷ 1 ∷ 0 ∷ 0 ∷ 0 ∷ 32 ∷ 0 ∷ 0 ∷ 0 ∷ 0 ∷ 0 ∷ 0 ∷ 0 ∷ 0 ∷ 0 ∷ 0 ∷ 0 ∷ 0 ∷ 0 ∷ 18 ∷ 0 ∷ 22 ∷ 0 ∷ 4 ∷ 0 ∷ 20 ∷ 0 ∷ 21 ∷ 0 ∷ 8 ∷ 0 ∷ 0 ∷ 0 ∷ 12 ∷ 0 ∷ 16 ∷ 0 ∷ 18 ∷ 0 ∷ 0 ∷ 0 ∷ 20 ∷ 0 ∷ 0 ∷ 0 ∷ 32 ∷ 0 ∷ 0 ∷ 0 ∷ 40 ∷ 0 ∷ 0 ∷ 0 ∷ 40 ∷ 0 ∷ 0 ∷ 0 ∷ 1 ∷ 2 ∷ 0 ∷ 0 ∷ 1 ∷ 0 ∷ 0 ∷ 0 ∷ 105 ∷ 0 ∷ 0 ∷ 0 ∷ 8 ∷ 0 ∷ 9 ∷ 0 ∷ 4 ∷ 0 ∷ 8 ∷ 0 ∷ 8 ∷ 0 ∷ 0 ∷ 0 ∷ 32 ∷ 0 ∷ 0 ∷ 0 ∷ 1 ∷ 0 ∷ 0 ∷ 0 ∷ 0 ∷ 0 ∷ 0 ∷ 0 ∷ 1 ∷ 0 ∷ 0 ∷ 0 ∷ 12 ∷ 0 ∷ 0 ∷ 0 ∷ 8 ∷ 0 ∷ 12 ∷ 0 ∷ 4 ∷ 0 ∷ 8 ∷ 0 ∷ 8 ∷ 0 ∷ 0 ∷ 0 ∷ 8 ∷ 0 ∷ 0 ∷ 0 ∷ 32 ∷ 0 ∷ 0 ∷ 0 ∷ 20 ∷ 0 ∷ 0 ∷ 0 ∷ 65 ∷ 82 ∷ 82 ∷ 79 ∷ 87 ∷ 58 ∷ 101 ∷ 120 ∷ 116 ∷ 101 ∷ 110 ∷ 115 ∷ 105 ∷ 111 ∷ 110 ∷ 58 ∷ 110 ∷ 97 ∷ 109 ∷ 101 ∷ 0 ∷ 0 ∷ 0 ∷ 0 ∷ 1 ∷ 0 ∷ 0 ∷ 0 ∷ 101 ∷ 0 ∷ 0 ∷ 0 ∷ []

abbrev pub list_field : FieldTree
list_field = field (98 ∷ []) (types.list (field (105 ∷ []) (types.extension (101 ∷ []) types.int32 None) true [])) true []

bytes_is : spec_field_at 64 extension_bytes 80 (progress 300 no_dictionaries) ≡ Ok (bytes_field, progress 156 no_dictionaries)
unfolding spec_offset_at spec_back_from spec_table_at spec_field_position spec_charge_budget spec_read_table spec_read_vector spec_read_string tables_at tables_in_turn spec_items_at spec_str_at spec_pair_at spec_metadata_at spec_fixed_size_binary_at spec_field_at
bytes_is = rw (text_a, text_text_key, text_empty, text_name_key, text_uuid, text_own, text_kept) refl

list_is : spec_field_at 64 inner_bytes 88 (progress 300 no_dictionaries) ≡ Ok (list_field, progress 201 no_dictionaries)
unfolding spec_offset_at spec_back_from spec_table_at spec_field_position spec_charge_budget spec_read_table spec_read_vector spec_read_string tables_at tables_in_turn spec_items_at spec_str_at spec_pair_at spec_metadata_at spec_bare_at spec_integer_at spec_field_at
list_is = rw (text_b, text_i, text_name_key, text_e) refl

abbrev pub AreExtended : Type 0
AreExtended = (spec_field_at 64 extension_bytes 80 (progress 300 no_dictionaries) ≡ Ok (bytes_field, progress 156 no_dictionaries)) × (spec_field_at 64 inner_bytes 88 (progress 300 no_dictionaries) ≡ Ok (list_field, progress 201 no_dictionaries))

pub extended : AreExtended
extended = (bytes_is, list_is)

-- ---- fields without an extension type

-- the second key alone is ordinary metadata
second_alone : field_with_metadata (97 ∷ []) types.int8 true ((extension_metadata, 98 ∷ []) ∷ []) ≡ field (97 ∷ []) types.int8 true ((extension_metadata, 98 ∷ []) ∷ [])
second_alone = refl

-- the entries of a map are not an extension type
abbrev pub pair : FieldTree
pair = field [] types.int8 true []

no_pair : map_of false (field (97 ∷ []) (types.extension (98 ∷ []) (types.struct (more_fields pair (more_fields pair no_fields))) None) false []) ≡ Err MapEntries
no_pair = refl

abbrev pub ArePlain : Type 0
ArePlain = (field_with_metadata (97 ∷ []) types.int8 true ((extension_metadata, 98 ∷ []) ∷ []) ≡ field (97 ∷ []) types.int8 true ((extension_metadata, 98 ∷ []) ∷ []))
    × (map_of false (field (97 ∷ []) (types.extension (98 ∷ []) (types.struct (more_fields pair (more_fields pair no_fields))) None) false []) ≡ Err MapEntries)

pub plain : ArePlain
plain = (second_alone, no_pair)
