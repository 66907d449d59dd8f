-- Worked examples: the bytes of dictionary-encoded fields, of another writer and by hand, and the value types of ids.
use Rattle.std.specs.Prelude.{◌≡◌, ℕ, ℤ, pos, true, false, List, [], ◌∷◌, Some, None, Result, Ok, Err, refl}
use Rattle.std.specs.Str.{is_utf8}
use Rattle.std.proofs.Common.{rules, arith}
use Rattle.std.proofs.lemmas.Str.{IsUtf8-from_ascii, is_utf8-from_IsUtf8}
use Rattle.nest_memory.specs.TypeTree as types
use Rattle.nest_memory.specs.TypeTree.{FieldTree, field, no_fields}
use Rattle.nest_memory.specs.declared.datatypes.UnionMode.TheVariants.{Dense}
use Rattle.ipc_flatbuf.specs.declared.error.IpcReadError.{IpcReadError}
use Rattle.nest_memory.specs.declared.datatypes.IntegerType.TheVariants.{Int8, Int16, Int32, UInt32}
use Rattle.ipc_flatbuf.specs.declared.error.IpcReadError.TheVariants.{TypeRange, DictionaryType}
use Rattle.ipc_flatbuf.specs.Flatbuffers.{spec_offset_at, spec_back_from, spec_table_at, spec_field_position, spec_charge_budget, spec_read_table, spec_read_vector, spec_read_string, tables_at, spec_items_at, spec_str_at}
use Rattle.ipc_schema.specs.Types.{spec_bare_at, spec_integer_at}
use Rattle.ipc_schema.specs.Dictionaries.{DictionaryTypesModel, no_dictionaries, progress, spec_record_values, spec_key_at, spec_encoding_at}
use Rattle.ipc_schema.specs.OutermostIds.{outermost_within, spec_outermost_ids}
use Rattle.ipc_schema.specs.Unions.{spec_field_has_union, have_union}
use Rattle.ipc_schema.specs.FieldVectors.{tables_in_turn}
use Rattle.ipc_schema.specs.Schemas.{spec_pair_at, spec_metadata_at, spec_field_at}
use Rattle.ipc_schema.specs.ExtensionExamples.{text_name_key}

-- ---- strings

text_a : is_utf8 (97 ∷ []) ≡ true
text_a = is_utf8-from_IsUtf8 (97 ∷ []) (IsUtf8-from_ascii (97 ∷ []) (search (rules, arith)))

text_b : is_utf8 (98 ∷ []) ≡ true
text_b = is_utf8-from_IsUtf8 (98 ∷ []) (IsUtf8-from_ascii (98 ∷ []) (search (rules, arith)))

text_c : is_utf8 (99 ∷ []) ≡ true
text_c = is_utf8-from_IsUtf8 (99 ∷ []) (IsUtf8-from_ascii (99 ∷ []) (search (rules, arith)))

text_e : is_utf8 (101 ∷ []) ≡ true
text_e = is_utf8-from_IsUtf8 (101 ∷ []) (IsUtf8-from_ascii (101 ∷ []) (search (rules, arith)))

-- ---- one field

-- an extension type of a dictionary, written by hand
abbrev pub colors_bytes : List ℕ
colors_bytes =
    24 ∷ 0 ∷ 0 ∷ 0 ∷ 0 ∷ 0 ∷ 0 ∷ 0 ∷ 0 ∷ 0 ∷ 0 ∷ 0 ∷ 0 ∷ 0 ∷ 10 ∷ 0 ∷ 11 ∷ 0 ∷ 8 ∷ 0 ∷ 10 ∷ 0 ∷ 4 ∷ 0 ∷ 10 ∷ 0 ∷ 0 ∷ 0 ∷ 20 ∷ 0 ∷ 0 ∷ 0 ∷ 4 ∷ 0 ∷ 1 ∷ 0 ∷ 0 ∷ 0 ∷ 0 ∷ 0 ∷ 8 ∷ 0 ∷ 8 ∷ 0 ∷ 0 ∷ 0 ∷ 4 ∷ 0 ∷ 8 ∷ 0 ∷ 0 ∷ 0 ∷ 4 ∷ 0 ∷ 0 ∷ 0 ∷ 1 ∷ 0 ∷ 0 ∷ 0 ∷ 28 ∷ 0 ∷ 0 ∷ 0 ∷ 0 ∷ 0 ∷ 0 ∷ 0 ∷ 0 ∷ 0 ∷ 18 ∷ 0 ∷ 26 ∷ 0 ∷ 4 ∷ 0 ∷ 24 ∷ 0 ∷ 25 ∷ 0 ∷ 8 ∷ 0 ∷ 12 ∷ 0 ∷ 16 ∷ 0 ∷ 20 ∷ 0 ∷ 18 ∷ 0 ∷ 0 ∷ 0 ∷ 24 ∷ 0 ∷ 0 ∷ 0 ∷ 40 ∷ 0 ∷ 0 ∷ 0 ∷ 60 ∷ 0 ∷ 0 ∷ 0 ∷ 64 ∷ 0 ∷ 0 ∷ 0 ∷ 64 ∷ 0 ∷ 0 ∷ 0 ∷ 1 ∷ 5 ∷ 0 ∷ 0 ∷ 1 ∷ 0 ∷ 0 ∷ 0 ∷ 99 ∷ 0 ∷ 0 ∷ 0 ∷ 0 ∷ 0 ∷ 0 ∷ 0 ∷ 0 ∷ 0 ∷ 0 ∷ 0 ∷ 4 ∷ 0 ∷ 4 ∷ 0 ∷ 4 ∷ 0 ∷ 0 ∷ 0 ∷ 0 ∷ 0 ∷ 0 ∷ 0 ∷ 0 ∷ 0 ∷ 0 ∷ 0 ∷ 12 ∷ 0 ∷ 8 ∷ 0 ∷ 0 ∷ 0 ∷ 4 ∷ 0 ∷ 0 ∷ 0 ∷ 0 ∷ 0 ∷ 12 ∷ 0 ∷ 0 ∷ 0 ∷ 28 ∷ 0 ∷ 0 ∷ 0 ∷ 0 ∷ 0 ∷ 0 ∷ 0 ∷ 1 ∷ 0 ∷ 0 ∷ 0 ∷ 40 ∷ 0 ∷ 0 ∷ 0 ∷ 0 ∷ 0 ∷ 0 ∷ 0 ∷ 8 ∷ 0 ∷ 9 ∷ 0 ∷ 4 ∷ 0 ∷ 8 ∷ 0 ∷ 8 ∷ 0 ∷ 0 ∷ 0 ∷ 8 ∷ 0 ∷ 0 ∷ 0 ∷ 1 ∷ 0 ∷ 0 ∷ 0 ∷ 0 ∷ 0 ∷ 0 ∷ 0 ∷ 8 ∷ 0 ∷ 12 ∷ 0 ∷ 4 ∷ 0 ∷ 8 ∷ 0 ∷ 8 ∷ 0 ∷ 0 ∷ 0 ∷ 8 ∷ 0 ∷ 0 ∷ 0 ∷ 32 ∷ 0 ∷ 0 ∷ 0 ∷ 20 ∷ 0 ∷ 0 ∷ 0 ∷ 65 ∷ 82 ∷ 82 ∷ 79 ∷ 87 ∷ 58 ∷ 101 ∷ 120 ∷ 116 ∷ 101 ∷ 110 ∷ 115 ∷ 105 ∷ 111 ∷ 110 ∷ 58 ∷ 110 ∷ 97 ∷ 109 ∷ 101 ∷ 0 ∷ 0 ∷ 0 ∷ 0 ∷ 1 ∷ 0 ∷ 0 ∷ 0 ∷ 101 ∷ 0 ∷ 0 ∷ 0 ∷ []

abbrev pub colors : FieldTree
colors = field (99 ∷ []) (types.extension (101 ∷ []) (types.dictionary Int8 types.utf8 false) None) true []

abbrev pub colors_seen : DictionaryTypesModel
colors_seen = record { ids = pos 0 ∷ []; named = (pos 0, record { values = types.utf8; inside = [] }) ∷ [] }

colors_is : spec_field_at 64 colors_bytes 88 (progress 300 no_dictionaries) ≡ Ok (colors, progress 214 colors_seen)
unfolding spec_offset_at spec_back_from spec_table_at spec_field_position spec_charge_budget spec_read_table spec_read_vector spec_read_string tables_at tables_in_turn spec_items_at spec_str_at spec_pair_at spec_metadata_at spec_bare_at spec_integer_at spec_key_at spec_encoding_at spec_field_at
colors_is = rw (text_c, text_name_key, text_e) refl

-- Int32 keys, where the key type is absent
abbrev pub keyless_bytes : List ℕ
keyless_bytes =
    16 ∷ 0 ∷ 0 ∷ 0 ∷ 10 ∷ 0 ∷ 11 ∷ 0 ∷ 8 ∷ 0 ∷ 10 ∷ 0 ∷ 4 ∷ 0 ∷ 0 ∷ 0 ∷ 12 ∷ 0 ∷ 0 ∷ 0 ∷ 16 ∷ 0 ∷ 0 ∷ 0 ∷ 4 ∷ 0 ∷ 1 ∷ 0 ∷ 8 ∷ 0 ∷ 8 ∷ 0 ∷ 0 ∷ 0 ∷ 4 ∷ 0 ∷ 8 ∷ 0 ∷ 0 ∷ 0 ∷ 4 ∷ 0 ∷ 0 ∷ 0 ∷ 1 ∷ 0 ∷ 0 ∷ 0 ∷ 20 ∷ 0 ∷ 0 ∷ 0 ∷ 16 ∷ 0 ∷ 22 ∷ 0 ∷ 4 ∷ 0 ∷ 20 ∷ 0 ∷ 21 ∷ 0 ∷ 8 ∷ 0 ∷ 12 ∷ 0 ∷ 16 ∷ 0 ∷ 16 ∷ 0 ∷ 0 ∷ 0 ∷ 20 ∷ 0 ∷ 0 ∷ 0 ∷ 28 ∷ 0 ∷ 0 ∷ 0 ∷ 28 ∷ 0 ∷ 0 ∷ 0 ∷ 28 ∷ 0 ∷ 0 ∷ 0 ∷ 1 ∷ 5 ∷ 0 ∷ 0 ∷ 1 ∷ 0 ∷ 0 ∷ 0 ∷ 97 ∷ 0 ∷ 4 ∷ 0 ∷ 4 ∷ 0 ∷ 0 ∷ 0 ∷ 6 ∷ 0 ∷ 0 ∷ 0 ∷ 10 ∷ 0 ∷ 0 ∷ 0 ∷ 0 ∷ 0 ∷ 0 ∷ 0 ∷ 0 ∷ 0 ∷ 0 ∷ 0 ∷ []

abbrev pub keyless : FieldTree
keyless = field (97 ∷ []) (types.dictionary Int32 types.utf8 false) true []

keyless_is : spec_field_at 64 keyless_bytes 68 (progress 300 no_dictionaries) ≡ Ok (keyless, progress 267 colors_seen)
unfolding spec_offset_at spec_back_from spec_table_at spec_field_position spec_charge_budget spec_read_table spec_read_vector spec_read_string tables_at tables_in_turn spec_items_at spec_str_at spec_pair_at spec_metadata_at spec_bare_at spec_integer_at spec_key_at spec_encoding_at spec_field_at
keyless_is = rw text_a refl

-- a dictionary of lists with a nested dictionary, without names, written by hand
abbrev pub nested_bytes : List ℕ
nested_bytes =
    24 ∷ 0 ∷ 0 ∷ 0 ∷ 0 ∷ 0 ∷ 0 ∷ 0 ∷ 0 ∷ 0 ∷ 0 ∷ 0 ∷ 0 ∷ 0 ∷ 10 ∷ 0 ∷ 11 ∷ 0 ∷ 8 ∷ 0 ∷ 10 ∷ 0 ∷ 4 ∷ 0 ∷ 10 ∷ 0 ∷ 0 ∷ 0 ∷ 20 ∷ 0 ∷ 0 ∷ 0 ∷ 4 ∷ 0 ∷ 1 ∷ 0 ∷ 0 ∷ 0 ∷ 0 ∷ 0 ∷ 8 ∷ 0 ∷ 8 ∷ 0 ∷ 0 ∷ 0 ∷ 4 ∷ 0 ∷ 8 ∷ 0 ∷ 0 ∷ 0 ∷ 4 ∷ 0 ∷ 0 ∷ 0 ∷ 1 ∷ 0 ∷ 0 ∷ 0 ∷ 20 ∷ 0 ∷ 0 ∷ 0 ∷ 16 ∷ 0 ∷ 18 ∷ 0 ∷ 0 ∷ 0 ∷ 16 ∷ 0 ∷ 17 ∷ 0 ∷ 4 ∷ 0 ∷ 8 ∷ 0 ∷ 12 ∷ 0 ∷ 16 ∷ 0 ∷ 0 ∷ 0 ∷ 28 ∷ 0 ∷ 0 ∷ 0 ∷ 48 ∷ 0 ∷ 0 ∷ 0 ∷ 56 ∷ 0 ∷ 0 ∷ 0 ∷ 1 ∷ 12 ∷ 0 ∷ 0 ∷ 0 ∷ 0 ∷ 0 ∷ 0 ∷ 0 ∷ 0 ∷ 0 ∷ 0 ∷ 4 ∷ 0 ∷ 4 ∷ 0 ∷ 4 ∷ 0 ∷ 0 ∷ 0 ∷ 0 ∷ 0 ∷ 0 ∷ 0 ∷ 0 ∷ 0 ∷ 0 ∷ 0 ∷ 12 ∷ 0 ∷ 9 ∷ 0 ∷ 0 ∷ 0 ∷ 4 ∷ 0 ∷ 8 ∷ 0 ∷ 0 ∷ 0 ∷ 12 ∷ 0 ∷ 0 ∷ 0 ∷ 28 ∷ 0 ∷ 0 ∷ 0 ∷ 1 ∷ 0 ∷ 0 ∷ 0 ∷ 1 ∷ 0 ∷ 0 ∷ 0 ∷ 48 ∷ 0 ∷ 0 ∷ 0 ∷ 0 ∷ 0 ∷ 0 ∷ 0 ∷ 8 ∷ 0 ∷ 9 ∷ 0 ∷ 4 ∷ 0 ∷ 8 ∷ 0 ∷ 8 ∷ 0 ∷ 0 ∷ 0 ∷ 16 ∷ 0 ∷ 0 ∷ 0 ∷ 1 ∷ 0 ∷ 0 ∷ 0 ∷ 0 ∷ 0 ∷ 0 ∷ 0 ∷ 16 ∷ 0 ∷ 18 ∷ 0 ∷ 0 ∷ 0 ∷ 16 ∷ 0 ∷ 17 ∷ 0 ∷ 4 ∷ 0 ∷ 8 ∷ 0 ∷ 12 ∷ 0 ∷ 16 ∷ 0 ∷ 0 ∷ 0 ∷ 28 ∷ 0 ∷ 0 ∷ 0 ∷ 48 ∷ 0 ∷ 0 ∷ 0 ∷ 64 ∷ 0 ∷ 0 ∷ 0 ∷ 1 ∷ 5 ∷ 0 ∷ 0 ∷ 0 ∷ 0 ∷ 0 ∷ 0 ∷ 0 ∷ 0 ∷ 0 ∷ 0 ∷ 4 ∷ 0 ∷ 4 ∷ 0 ∷ 4 ∷ 0 ∷ 0 ∷ 0 ∷ 0 ∷ 0 ∷ 0 ∷ 0 ∷ 0 ∷ 0 ∷ 0 ∷ 0 ∷ 12 ∷ 0 ∷ 20 ∷ 0 ∷ 8 ∷ 0 ∷ 16 ∷ 0 ∷ 0 ∷ 0 ∷ 0 ∷ 0 ∷ 12 ∷ 0 ∷ 0 ∷ 0 ∷ 0 ∷ 0 ∷ 0 ∷ 0 ∷ 1 ∷ 0 ∷ 0 ∷ 0 ∷ 0 ∷ 0 ∷ 0 ∷ 0 ∷ 16 ∷ 0 ∷ 0 ∷ 0 ∷ 0 ∷ 0 ∷ 0 ∷ 0 ∷ 8 ∷ 0 ∷ 9 ∷ 0 ∷ 4 ∷ 0 ∷ 8 ∷ 0 ∷ 8 ∷ 0 ∷ 0 ∷ 0 ∷ 8 ∷ 0 ∷ 0 ∷ 0 ∷ 1 ∷ 0 ∷ 0 ∷ 0 ∷ 0 ∷ 0 ∷ 0 ∷ 0 ∷ []

abbrev pub inside : FieldTree
inside = field [] (types.dictionary Int8 types.utf8 false) true []

abbrev pub outside : FieldTree
outside = field [] (types.dictionary Int16 (types.list inside) true) true []

abbrev pub nested_seen : DictionaryTypesModel
nested_seen = record {
  ids = pos 0 ∷ pos 1 ∷ [];
  named = (pos 0, record { values = types.list inside; inside = pos 1 ∷ [] }) ∷ (pos 1, record { values = types.utf8; inside = [] }) ∷ [];
}

nested_is : spec_field_at 64 nested_bytes 80 (progress 300 no_dictionaries) ≡ Ok (outside, progress 224 nested_seen)
unfolding spec_offset_at spec_back_from spec_table_at spec_field_position spec_charge_budget spec_read_table spec_read_vector spec_read_string tables_at tables_in_turn spec_items_at spec_str_at spec_pair_at spec_metadata_at spec_bare_at spec_integer_at spec_key_at spec_encoding_at spec_field_at
nested_is = refl

abbrev pub AreKeyed : Type 0
AreKeyed = (spec_field_at 64 colors_bytes 88 (progress 300 no_dictionaries) ≡ Ok (colors, progress 214 colors_seen))
    × (spec_field_at 64 keyless_bytes 68 (progress 300 no_dictionaries) ≡ Ok (keyless, progress 267 colors_seen))
    × (spec_field_at 64 nested_bytes 80 (progress 300 no_dictionaries) ≡ Ok (outside, progress 224 nested_seen))

pub are_keyed : AreKeyed
are_keyed = (colors_is, keyless_is, nested_is)

-- ---- outermost ids

-- dictionaries of lists with nested dictionaries: the outer ids, and ids without a value type
abbrev pub AreOuter : Type 0
AreOuter = (spec_outermost_ids nested_seen.named nested_seen.ids ≡ pos 0 ∷ []) × (spec_outermost_ids nested_seen.named (pos 1 ∷ []) ≡ pos 1 ∷ [])
    × (spec_outermost_ids nested_seen.named (pos 0 ∷ pos 1 ∷ pos 1 ∷ pos 0 ∷ pos 1 ∷ []) ≡ pos 0 ∷ pos 1 ∷ pos 0 ∷ []) × (spec_outermost_ids [] (pos 7 ∷ pos 7 ∷ []) ≡ pos 7 ∷ pos 7 ∷ [])

pub are_outer : AreOuter
unfolding outermost_within
are_outer = (refl, refl, refl, refl)

-- ---- fields of one id

abbrev pub shared_bytes : List ℕ
shared_bytes =
    16 ∷ 0 ∷ 0 ∷ 0 ∷ 10 ∷ 0 ∷ 11 ∷ 0 ∷ 8 ∷ 0 ∷ 10 ∷ 0 ∷ 4 ∷ 0 ∷ 0 ∷ 0 ∷ 12 ∷ 0 ∷ 0 ∷ 0 ∷ 16 ∷ 0 ∷ 0 ∷ 0 ∷ 4 ∷ 0 ∷ 1 ∷ 0 ∷ 8 ∷ 0 ∷ 8 ∷ 0 ∷ 0 ∷ 0 ∷ 4 ∷ 0 ∷ 8 ∷ 0 ∷ 0 ∷ 0 ∷ 4 ∷ 0 ∷ 0 ∷ 0 ∷ 2 ∷ 0 ∷ 0 ∷ 0 ∷ 24 ∷ 0 ∷ 0 ∷ 0 ∷ 92 ∷ 0 ∷ 0 ∷ 0 ∷ 16 ∷ 0 ∷ 21 ∷ 0 ∷ 4 ∷ 0 ∷ 0 ∷ 0 ∷ 20 ∷ 0 ∷ 8 ∷ 0 ∷ 12 ∷ 0 ∷ 16 ∷ 0 ∷ 16 ∷ 0 ∷ 0 ∷ 0 ∷ 20 ∷ 0 ∷ 0 ∷ 0 ∷ 28 ∷ 0 ∷ 0 ∷ 0 ∷ 28 ∷ 0 ∷ 0 ∷ 0 ∷ 52 ∷ 0 ∷ 0 ∷ 0 ∷ 5 ∷ 0 ∷ 0 ∷ 0 ∷ 1 ∷ 0 ∷ 0 ∷ 0 ∷ 97 ∷ 0 ∷ 4 ∷ 0 ∷ 4 ∷ 0 ∷ 0 ∷ 0 ∷ 6 ∷ 0 ∷ 0 ∷ 0 ∷ 84 ∷ 0 ∷ 0 ∷ 0 ∷ 12 ∷ 0 ∷ 0 ∷ 0 ∷ 8 ∷ 0 ∷ 9 ∷ 0 ∷ 4 ∷ 0 ∷ 8 ∷ 0 ∷ 8 ∷ 0 ∷ 0 ∷ 0 ∷ 8 ∷ 0 ∷ 0 ∷ 0 ∷ 1 ∷ 0 ∷ 0 ∷ 0 ∷ 0 ∷ 0 ∷ 0 ∷ 0 ∷ 88 ∷ 0 ∷ 0 ∷ 0 ∷ 20 ∷ 0 ∷ 0 ∷ 0 ∷ 24 ∷ 0 ∷ 0 ∷ 0 ∷ 24 ∷ 0 ∷ 0 ∷ 0 ∷ 44 ∷ 0 ∷ 0 ∷ 0 ∷ 5 ∷ 0 ∷ 0 ∷ 0 ∷ 1 ∷ 0 ∷ 0 ∷ 0 ∷ 98 ∷ 0 ∷ 0 ∷ 0 ∷ 74 ∷ 0 ∷ 0 ∷ 0 ∷ 152 ∷ 0 ∷ 0 ∷ 0 ∷ 12 ∷ 0 ∷ 0 ∷ 0 ∷ 6 ∷ 0 ∷ 8 ∷ 0 ∷ 4 ∷ 0 ∷ 0 ∷ 0 ∷ 8 ∷ 0 ∷ 0 ∷ 0 ∷ 32 ∷ 0 ∷ 0 ∷ 0 ∷ 0 ∷ 0 ∷ 0 ∷ 0 ∷ []

abbrev pub shared : List FieldTree
shared = field (97 ∷ []) (types.dictionary Int8 types.utf8 false) false [] ∷ field (98 ∷ []) (types.dictionary UInt32 types.utf8 false) false [] ∷ []

abbrev pub shared_seen : DictionaryTypesModel
shared_seen = record { ids = pos 0 ∷ pos 0 ∷ []; named = (pos 0, record { values = types.utf8; inside = [] }) ∷ [] }

shared_is : tables_in_turn (spec_field_at 64 shared_bytes) shared_bytes 2 48 (progress 300 no_dictionaries) ≡ Ok (shared, progress 218 shared_seen)
unfolding spec_offset_at spec_back_from spec_table_at spec_field_position spec_charge_budget spec_read_table spec_read_vector spec_read_string tables_at tables_in_turn spec_items_at spec_str_at spec_pair_at spec_metadata_at spec_bare_at spec_integer_at spec_key_at spec_encoding_at spec_field_at
shared_is = rw (text_a, text_b) refl

-- strings and numbers
abbrev pub two_bytes : List ℕ
two_bytes =
    16 ∷ 0 ∷ 0 ∷ 0 ∷ 10 ∷ 0 ∷ 11 ∷ 0 ∷ 8 ∷ 0 ∷ 10 ∷ 0 ∷ 4 ∷ 0 ∷ 0 ∷ 0 ∷ 12 ∷ 0 ∷ 0 ∷ 0 ∷ 16 ∷ 0 ∷ 0 ∷ 0 ∷ 4 ∷ 0 ∷ 1 ∷ 0 ∷ 8 ∷ 0 ∷ 8 ∷ 0 ∷ 0 ∷ 0 ∷ 4 ∷ 0 ∷ 8 ∷ 0 ∷ 0 ∷ 0 ∷ 4 ∷ 0 ∷ 0 ∷ 0 ∷ 2 ∷ 0 ∷ 0 ∷ 0 ∷ 24 ∷ 0 ∷ 0 ∷ 0 ∷ 92 ∷ 0 ∷ 0 ∷ 0 ∷ 16 ∷ 0 ∷ 22 ∷ 0 ∷ 4 ∷ 0 ∷ 20 ∷ 0 ∷ 21 ∷ 0 ∷ 8 ∷ 0 ∷ 12 ∷ 0 ∷ 16 ∷ 0 ∷ 16 ∷ 0 ∷ 0 ∷ 0 ∷ 20 ∷ 0 ∷ 0 ∷ 0 ∷ 28 ∷ 0 ∷ 0 ∷ 0 ∷ 28 ∷ 0 ∷ 0 ∷ 0 ∷ 52 ∷ 0 ∷ 0 ∷ 0 ∷ 1 ∷ 5 ∷ 0 ∷ 0 ∷ 1 ∷ 0 ∷ 0 ∷ 0 ∷ 97 ∷ 0 ∷ 4 ∷ 0 ∷ 4 ∷ 0 ∷ 0 ∷ 0 ∷ 6 ∷ 0 ∷ 0 ∷ 0 ∷ 84 ∷ 0 ∷ 0 ∷ 0 ∷ 12 ∷ 0 ∷ 0 ∷ 0 ∷ 8 ∷ 0 ∷ 9 ∷ 0 ∷ 4 ∷ 0 ∷ 8 ∷ 0 ∷ 8 ∷ 0 ∷ 0 ∷ 0 ∷ 32 ∷ 0 ∷ 0 ∷ 0 ∷ 1 ∷ 0 ∷ 0 ∷ 0 ∷ 0 ∷ 0 ∷ 0 ∷ 0 ∷ 88 ∷ 0 ∷ 0 ∷ 0 ∷ 20 ∷ 0 ∷ 0 ∷ 0 ∷ 24 ∷ 0 ∷ 0 ∷ 0 ∷ 32 ∷ 0 ∷ 0 ∷ 0 ∷ 48 ∷ 0 ∷ 0 ∷ 0 ∷ 1 ∷ 2 ∷ 0 ∷ 0 ∷ 1 ∷ 0 ∷ 0 ∷ 0 ∷ 98 ∷ 0 ∷ 0 ∷ 0 ∷ 56 ∷ 0 ∷ 0 ∷ 0 ∷ 32 ∷ 0 ∷ 0 ∷ 0 ∷ 1 ∷ 0 ∷ 0 ∷ 0 ∷ 160 ∷ 0 ∷ 0 ∷ 0 ∷ 4 ∷ 0 ∷ 0 ∷ 0 ∷ 76 ∷ 0 ∷ 0 ∷ 0 ∷ 32 ∷ 0 ∷ 0 ∷ 0 ∷ 1 ∷ 0 ∷ 0 ∷ 0 ∷ 0 ∷ 0 ∷ 0 ∷ 0 ∷ 0 ∷ 0 ∷ 0 ∷ 0 ∷ []

two_are_refused : tables_in_turn (spec_field_at 64 two_bytes) two_bytes 2 48 (progress 300 no_dictionaries) ≡ Err DictionaryType
unfolding spec_offset_at spec_back_from spec_table_at spec_field_position spec_charge_budget spec_read_table spec_read_vector spec_read_string tables_at tables_in_turn spec_items_at spec_str_at spec_pair_at spec_metadata_at spec_bare_at spec_integer_at spec_key_at spec_encoding_at spec_field_at
two_are_refused = rw (text_a, text_b) refl

-- one type with other nested ids
abbrev pub of_three : List ℤ → Result DictionaryTypesModel IpcReadError
of_three inside =
    spec_record_values (Some (record { id = pos 3; key = Int8; is_ordered = false })) types.utf8 0 (record { ids = pos 3 ∷ inside; named = (pos 3, record { values = types.utf8; inside = pos 7 ∷ [] }) ∷ [] })

others_are_refused : of_three (pos 8 ∷ []) ≡ Err DictionaryType
others_are_refused = refl

the_same_are_not : of_three (pos 7 ∷ []) ≡ Ok (record { ids = pos 3 ∷ pos 7 ∷ []; named = (pos 3, record { values = types.utf8; inside = pos 7 ∷ [] }) ∷ [] })
the_same_are_not = refl

abbrev pub AreOfOneId : Type 0
AreOfOneId = (tables_in_turn (spec_field_at 64 shared_bytes) shared_bytes 2 48 (progress 300 no_dictionaries) ≡ Ok (shared, progress 218 shared_seen))
    × (tables_in_turn (spec_field_at 64 two_bytes) two_bytes 2 48 (progress 300 no_dictionaries) ≡ Err DictionaryType)
    × (of_three (pos 8 ∷ []) ≡ Err DictionaryType)
    × (of_three (pos 7 ∷ []) ≡ Ok (record { ids = pos 3 ∷ pos 7 ∷ []; named = (pos 3, record { values = types.utf8; inside = pos 7 ∷ [] }) ∷ [] }))

pub are_of_one_id : AreOfOneId
are_of_one_id = (shared_is, two_are_refused, others_are_refused, the_same_are_not)

-- ---- errors, and types that are searched for unions

-- a table whose dictionary kind is 1, written by hand
kind_is_refused : spec_encoding_at (12 ∷ 0 ∷ 8 ∷ 0 ∷ 0 ∷ 0 ∷ 0 ∷ 0 ∷ 0 ∷ 0 ∷ 4 ∷ 0 ∷ 12 ∷ 0 ∷ 0 ∷ 0 ∷ 1 ∷ 0 ∷ 0 ∷ 0 ∷ []) 12 100 ≡ Err TypeRange
unfolding spec_offset_at spec_back_from spec_table_at spec_field_position spec_charge_budget spec_read_table spec_integer_at spec_key_at spec_encoding_at
kind_is_refused = refl

abbrev pub deep_union : FieldTree
deep_union = field [] (types.extension [] (types.dictionary Int8 (types.union no_fields None Dense) false) None) true []

union_is_seen : have_union (deep_union ∷ []) ≡ true
unfolding spec_field_has_union
union_is_seen = refl

abbrev pub AreLookedAt : Type 0
AreLookedAt = (spec_encoding_at (12 ∷ 0 ∷ 8 ∷ 0 ∷ 0 ∷ 0 ∷ 0 ∷ 0 ∷ 0 ∷ 0 ∷ 4 ∷ 0 ∷ 12 ∷ 0 ∷ 0 ∷ 0 ∷ 1 ∷ 0 ∷ 0 ∷ 0 ∷ []) 12 100 ≡ Err TypeRange) × (have_union (deep_union ∷ []) ≡ true)

pub are_looked_at : AreLookedAt
are_looked_at = (kind_is_refused, union_is_seen)
