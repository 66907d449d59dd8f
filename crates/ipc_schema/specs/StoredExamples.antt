-- Worked examples: a schema of Arrow C++ with views and small decimals, and the names and precisions that are refused.
use Rattle.std.specs.Prelude.{◌≡◌, ℕ, pos, true, false, List, [], ◌∷◌, codes, map, Ok, Err, refl}
use Rattle.std.specs.Str.{is_utf8}
use Rattle.std.proofs.Common.{rules, arith}
use Rattle.std.proofs.lemmas.Str.{IsUtf8-from_ascii, is_utf8-from_IsUtf8}
use Rattle.nest_memory.specs.TypeTree as types
use Rattle.nest_memory.specs.TypeTree.{Letters, field}
use Rattle.nest_memory.specs.declared.datatypes.IntegerType.TheVariants.{Int8}
use Rattle.ipc_flatbuf.specs.declared.projection.FieldAction.TheVariants.{Read}
use Rattle.ipc_flatbuf.specs.declared.projection.StoredArray.TheVariants.{Plain, View, Decimal32, Decimal64}
use Rattle.ipc_flatbuf.specs.declared.error.IpcReadError.TheVariants.{TypeRange}
use Rattle.ipc_flatbuf.specs.Flatbuffers.{spec_offset_at, spec_back_from, spec_table_at, spec_field_position, spec_charge_budget, spec_read_table, spec_read_vector, spec_read_string, tables_at, spec_items_at, spec_str_at}
use Rattle.ipc_flatbuf.specs.Messages.{root_at, spec_first_bytes, spec_after_continuation, spec_message_of_size, spec_sized_message, message_at}
use Rattle.ipc_schema.specs.Types.{spec_bare_at, spec_integer_at, spec_decimal_of, spec_decimal_at}
use Rattle.ipc_schema.specs.Dictionaries.{no_dictionaries, spec_key_at, spec_encoding_at}
use Rattle.ipc_schema.specs.SchemaBytes.{spec_type_number}
use Rattle.ipc_schema.specs.FieldVectors.{tables_in_turn}
use Rattle.ipc_schema.specs.Schemas.{spec_pair_at, spec_metadata_at, spec_field_at}
use Rattle.ipc_schema.specs.StoredTypes.{spec_utf8_view, spec_decimal32, spec_decimal64, spec_is_reserved_name}
use Rattle.ipc_schema.specs.Projections.{all}
use Rattle.ipc_schema.specs.ProjectedSchemas.{ProjectedSchemaModel, spec_projected_fields_at, spec_projected_schema_at, spec_projected_schema_in_message, stream_projected_schema_at}

no_text : is_utf8 [] ≡ true
no_text = is_utf8-from_IsUtf8 [] (IsUtf8-from_ascii [] (search (rules, arith)))

-- ---- schemas

-- string views
abbrev pub strings_message : List ℕ
strings_message =
    255 ∷ 255 ∷ 255 ∷ 255 ∷ 112 ∷ 0 ∷ 0 ∷ 0 ∷ 16 ∷ 0 ∷ 0 ∷ 0 ∷ 0 ∷ 0 ∷ 10 ∷ 0 ∷ 12 ∷ 0 ∷ 6 ∷ 0 ∷ 5 ∷ 0 ∷ 8 ∷ 0 ∷ 10 ∷ 0 ∷ 0 ∷ 0 ∷ 0 ∷ 1 ∷ 4 ∷ 0 ∷ 12 ∷ 0 ∷ 0 ∷ 0 ∷ 8 ∷ 0 ∷ 8 ∷ 0 ∷ 0 ∷ 0 ∷ 4 ∷ 0 ∷ 8 ∷ 0 ∷ 0 ∷ 0 ∷ 4 ∷ 0 ∷ 0 ∷ 0 ∷ 1 ∷ 0 ∷ 0 ∷ 0 ∷ 20 ∷ 0 ∷ 0 ∷ 0 ∷ 16 ∷ 0 ∷ 20 ∷ 0 ∷ 8 ∷ 0 ∷ 6 ∷ 0 ∷ 7 ∷ 0 ∷ 12 ∷ 0 ∷ 0 ∷ 0 ∷ 16 ∷ 0 ∷ 16 ∷ 0 ∷ 0 ∷ 0 ∷ 0 ∷ 0 ∷ 1 ∷ 24 ∷ 16 ∷ 0 ∷ 0 ∷ 0 ∷ 24 ∷ 0 ∷ 0 ∷ 0 ∷ 4 ∷ 0 ∷ 0 ∷ 0 ∷ 0 ∷ 0 ∷ 0 ∷ 0 ∷ 0 ∷ 0 ∷ 0 ∷ 0 ∷ 0 ∷ 0 ∷ 0 ∷ 0 ∷ 4 ∷ 0 ∷ 4 ∷ 0 ∷ 4 ∷ 0 ∷ 0 ∷ 0 ∷ 0 ∷ 0 ∷ 0 ∷ 0 ∷ []

abbrev pub strings_tree : ProjectedSchemaModel
strings_tree = record { schema = record { fields = field [] types.large_utf8 true [] ∷ []; metadata = [] }; steps = Read ∷ []; arrays = View ∷ []; seen = no_dictionaries }

strings_read : stream_projected_schema_at all strings_message ≡ Ok (strings_tree, [])
unfolding spec_offset_at spec_back_from spec_table_at spec_field_position spec_charge_budget spec_read_table spec_read_vector spec_read_string tables_at tables_in_turn spec_items_at spec_str_at root_at spec_first_bytes spec_after_continuation spec_message_of_size spec_sized_message message_at spec_pair_at spec_metadata_at spec_bare_at spec_integer_at spec_decimal_at spec_key_at spec_encoding_at spec_field_at spec_projected_fields_at spec_projected_schema_at spec_projected_schema_in_message stream_projected_schema_at spec_type_number
strings_read = rw no_text refl

-- binary views
abbrev pub binaries_message : List ℕ
binaries_message =
    255 ∷ 255 ∷ 255 ∷ 255 ∷ 112 ∷ 0 ∷ 0 ∷ 0 ∷ 16 ∷ 0 ∷ 0 ∷ 0 ∷ 0 ∷ 0 ∷ 10 ∷ 0 ∷ 12 ∷ 0 ∷ 6 ∷ 0 ∷ 5 ∷ 0 ∷ 8 ∷ 0 ∷ 10 ∷ 0 ∷ 0 ∷ 0 ∷ 0 ∷ 1 ∷ 4 ∷ 0 ∷ 12 ∷ 0 ∷ 0 ∷ 0 ∷ 8 ∷ 0 ∷ 8 ∷ 0 ∷ 0 ∷ 0 ∷ 4 ∷ 0 ∷ 8 ∷ 0 ∷ 0 ∷ 0 ∷ 4 ∷ 0 ∷ 0 ∷ 0 ∷ 1 ∷ 0 ∷ 0 ∷ 0 ∷ 20 ∷ 0 ∷ 0 ∷ 0 ∷ 16 ∷ 0 ∷ 20 ∷ 0 ∷ 8 ∷ 0 ∷ 6 ∷ 0 ∷ 7 ∷ 0 ∷ 12 ∷ 0 ∷ 0 ∷ 0 ∷ 16 ∷ 0 ∷ 16 ∷ 0 ∷ 0 ∷ 0 ∷ 0 ∷ 0 ∷ 1 ∷ 23 ∷ 16 ∷ 0 ∷ 0 ∷ 0 ∷ 24 ∷ 0 ∷ 0 ∷ 0 ∷ 4 ∷ 0 ∷ 0 ∷ 0 ∷ 0 ∷ 0 ∷ 0 ∷ 0 ∷ 0 ∷ 0 ∷ 0 ∷ 0 ∷ 0 ∷ 0 ∷ 0 ∷ 0 ∷ 4 ∷ 0 ∷ 4 ∷ 0 ∷ 4 ∷ 0 ∷ 0 ∷ 0 ∷ 0 ∷ 0 ∷ 0 ∷ 0 ∷ []

abbrev pub binaries_tree : ProjectedSchemaModel
binaries_tree = record { schema = record { fields = field [] types.large_binary true [] ∷ []; metadata = [] }; steps = Read ∷ []; arrays = View ∷ []; seen = no_dictionaries }

binaries_read : stream_projected_schema_at all binaries_message ≡ Ok (binaries_tree, [])
unfolding spec_offset_at spec_back_from spec_table_at spec_field_position spec_charge_budget spec_read_table spec_read_vector spec_read_string tables_at tables_in_turn spec_items_at spec_str_at root_at spec_first_bytes spec_after_continuation spec_message_of_size spec_sized_message message_at spec_pair_at spec_metadata_at spec_bare_at spec_integer_at spec_decimal_at spec_key_at spec_encoding_at spec_field_at spec_projected_fields_at spec_projected_schema_at spec_projected_schema_in_message stream_projected_schema_at spec_type_number
binaries_read = rw no_text refl

-- decimals of 32 bits
abbrev pub small_message : List ℕ
small_message =
    255 ∷ 255 ∷ 255 ∷ 255 ∷ 128 ∷ 0 ∷ 0 ∷ 0 ∷ 16 ∷ 0 ∷ 0 ∷ 0 ∷ 0 ∷ 0 ∷ 10 ∷ 0 ∷ 12 ∷ 0 ∷ 6 ∷ 0 ∷ 5 ∷ 0 ∷ 8 ∷ 0 ∷ 10 ∷ 0 ∷ 0 ∷ 0 ∷ 0 ∷ 1 ∷ 4 ∷ 0 ∷ 12 ∷ 0 ∷ 0 ∷ 0 ∷ 8 ∷ 0 ∷ 8 ∷ 0 ∷ 0 ∷ 0 ∷ 4 ∷ 0 ∷ 8 ∷ 0 ∷ 0 ∷ 0 ∷ 4 ∷ 0 ∷ 0 ∷ 0 ∷ 1 ∷ 0 ∷ 0 ∷ 0 ∷ 20 ∷ 0 ∷ 0 ∷ 0 ∷ 16 ∷ 0 ∷ 20 ∷ 0 ∷ 8 ∷ 0 ∷ 6 ∷ 0 ∷ 7 ∷ 0 ∷ 12 ∷ 0 ∷ 0 ∷ 0 ∷ 16 ∷ 0 ∷ 16 ∷ 0 ∷ 0 ∷ 0 ∷ 0 ∷ 0 ∷ 1 ∷ 7 ∷ 16 ∷ 0 ∷ 0 ∷ 0 ∷ 28 ∷ 0 ∷ 0 ∷ 0 ∷ 4 ∷ 0 ∷ 0 ∷ 0 ∷ 0 ∷ 0 ∷ 0 ∷ 0 ∷ 0 ∷ 0 ∷ 0 ∷ 0 ∷ 0 ∷ 0 ∷ 10 ∷ 0 ∷ 16 ∷ 0 ∷ 4 ∷ 0 ∷ 8 ∷ 0 ∷ 12 ∷ 0 ∷ 10 ∷ 0 ∷ 0 ∷ 0 ∷ 9 ∷ 0 ∷ 0 ∷ 0 ∷ 2 ∷ 0 ∷ 0 ∷ 0 ∷ 32 ∷ 0 ∷ 0 ∷ 0 ∷ 0 ∷ 0 ∷ 0 ∷ 0 ∷ []

abbrev pub small_tree : ProjectedSchemaModel
small_tree = record { schema = record { fields = field [] (types.decimal 9 2) true [] ∷ []; metadata = [] }; steps = Read ∷ []; arrays = Decimal32 ∷ []; seen = no_dictionaries }

small_read : stream_projected_schema_at all small_message ≡ Ok (small_tree, [])
unfolding spec_offset_at spec_back_from spec_table_at spec_field_position spec_charge_budget spec_read_table spec_read_vector spec_read_string tables_at tables_in_turn spec_items_at spec_str_at root_at spec_first_bytes spec_after_continuation spec_message_of_size spec_sized_message message_at spec_pair_at spec_metadata_at spec_bare_at spec_integer_at spec_decimal_at spec_key_at spec_encoding_at spec_field_at spec_projected_fields_at spec_projected_schema_at spec_projected_schema_in_message stream_projected_schema_at spec_type_number
small_read = rw no_text refl

-- decimals of 64 bits, which are not nullable
abbrev pub medium_message : List ℕ
medium_message =
    255 ∷ 255 ∷ 255 ∷ 255 ∷ 128 ∷ 0 ∷ 0 ∷ 0 ∷ 16 ∷ 0 ∷ 0 ∷ 0 ∷ 0 ∷ 0 ∷ 10 ∷ 0 ∷ 12 ∷ 0 ∷ 6 ∷ 0 ∷ 5 ∷ 0 ∷ 8 ∷ 0 ∷ 10 ∷ 0 ∷ 0 ∷ 0 ∷ 0 ∷ 1 ∷ 4 ∷ 0 ∷ 12 ∷ 0 ∷ 0 ∷ 0 ∷ 8 ∷ 0 ∷ 8 ∷ 0 ∷ 0 ∷ 0 ∷ 4 ∷ 0 ∷ 8 ∷ 0 ∷ 0 ∷ 0 ∷ 4 ∷ 0 ∷ 0 ∷ 0 ∷ 1 ∷ 0 ∷ 0 ∷ 0 ∷ 20 ∷ 0 ∷ 0 ∷ 0 ∷ 16 ∷ 0 ∷ 20 ∷ 0 ∷ 8 ∷ 0 ∷ 0 ∷ 0 ∷ 7 ∷ 0 ∷ 12 ∷ 0 ∷ 0 ∷ 0 ∷ 16 ∷ 0 ∷ 16 ∷ 0 ∷ 0 ∷ 0 ∷ 0 ∷ 0 ∷ 0 ∷ 7 ∷ 16 ∷ 0 ∷ 0 ∷ 0 ∷ 28 ∷ 0 ∷ 0 ∷ 0 ∷ 4 ∷ 0 ∷ 0 ∷ 0 ∷ 0 ∷ 0 ∷ 0 ∷ 0 ∷ 0 ∷ 0 ∷ 0 ∷ 0 ∷ 0 ∷ 0 ∷ 10 ∷ 0 ∷ 16 ∷ 0 ∷ 4 ∷ 0 ∷ 8 ∷ 0 ∷ 12 ∷ 0 ∷ 10 ∷ 0 ∷ 0 ∷ 0 ∷ 18 ∷ 0 ∷ 0 ∷ 0 ∷ 3 ∷ 0 ∷ 0 ∷ 0 ∷ 64 ∷ 0 ∷ 0 ∷ 0 ∷ 0 ∷ 0 ∷ 0 ∷ 0 ∷ []

abbrev pub medium_tree : ProjectedSchemaModel
medium_tree = record { schema = record { fields = field [] (types.decimal 18 3) false [] ∷ []; metadata = [] }; steps = Read ∷ []; arrays = Decimal64 ∷ []; seen = no_dictionaries }

medium_read : stream_projected_schema_at all medium_message ≡ Ok (medium_tree, [])
unfolding spec_offset_at spec_back_from spec_table_at spec_field_position spec_charge_budget spec_read_table spec_read_vector spec_read_string tables_at tables_in_turn spec_items_at spec_str_at root_at spec_first_bytes spec_after_continuation spec_message_of_size spec_sized_message message_at spec_pair_at spec_metadata_at spec_bare_at spec_integer_at spec_decimal_at spec_key_at spec_encoding_at spec_field_at spec_projected_fields_at spec_projected_schema_at spec_projected_schema_in_message stream_projected_schema_at spec_type_number
medium_read = rw no_text refl

-- a dictionary of string views
abbrev pub keyed_message : List ℕ
keyed_message =
    255 ∷ 255 ∷ 255 ∷ 255 ∷ 144 ∷ 0 ∷ 0 ∷ 0 ∷ 16 ∷ 0 ∷ 0 ∷ 0 ∷ 0 ∷ 0 ∷ 10 ∷ 0 ∷ 12 ∷ 0 ∷ 6 ∷ 0 ∷ 5 ∷ 0 ∷ 8 ∷ 0 ∷ 10 ∷ 0 ∷ 0 ∷ 0 ∷ 0 ∷ 1 ∷ 4 ∷ 0 ∷ 4 ∷ 0 ∷ 0 ∷ 0 ∷ 188 ∷ 255 ∷ 255 ∷ 255 ∷ 4 ∷ 0 ∷ 0 ∷ 0 ∷ 1 ∷ 0 ∷ 0 ∷ 0 ∷ 20 ∷ 0 ∷ 0 ∷ 0 ∷ 16 ∷ 0 ∷ 24 ∷ 0 ∷ 8 ∷ 0 ∷ 6 ∷ 0 ∷ 7 ∷ 0 ∷ 12 ∷ 0 ∷ 16 ∷ 0 ∷ 20 ∷ 0 ∷ 16 ∷ 0 ∷ 0 ∷ 0 ∷ 0 ∷ 0 ∷ 1 ∷ 24 ∷ 20 ∷ 0 ∷ 0 ∷ 0 ∷ 64 ∷ 0 ∷ 0 ∷ 0 ∷ 28 ∷ 0 ∷ 0 ∷ 0 ∷ 4 ∷ 0 ∷ 0 ∷ 0 ∷ 0 ∷ 0 ∷ 0 ∷ 0 ∷ 0 ∷ 0 ∷ 0 ∷ 0 ∷ 0 ∷ 0 ∷ 0 ∷ 0 ∷ 8 ∷ 0 ∷ 8 ∷ 0 ∷ 0 ∷ 0 ∷ 4 ∷ 0 ∷ 8 ∷ 0 ∷ 0 ∷ 0 ∷ 12 ∷ 0 ∷ 0 ∷ 0 ∷ 8 ∷ 0 ∷ 12 ∷ 0 ∷ 8 ∷ 0 ∷ 7 ∷ 0 ∷ 8 ∷ 0 ∷ 0 ∷ 0 ∷ 0 ∷ 0 ∷ 0 ∷ 1 ∷ 8 ∷ 0 ∷ 0 ∷ 0 ∷ 4 ∷ 0 ∷ 4 ∷ 0 ∷ 4 ∷ 0 ∷ 0 ∷ 0 ∷ 0 ∷ 0 ∷ 0 ∷ 0 ∷ []

abbrev pub keyed_tree : ProjectedSchemaModel
keyed_tree = record { schema = record { fields = field [] (types.dictionary Int8 types.large_utf8 false) true [] ∷ []; metadata = [] }; steps = Read ∷ []; arrays = Plain 2 ∷ []; seen = record { ids = pos 0 ∷ []; named = (pos 0, record { values = spec_utf8_view; inside = [] }) ∷ [] } }

keyed_read : stream_projected_schema_at all keyed_message ≡ Ok (keyed_tree, [])
unfolding spec_offset_at spec_back_from spec_table_at spec_field_position spec_charge_budget spec_read_table spec_read_vector spec_read_string tables_at tables_in_turn spec_items_at spec_str_at root_at spec_first_bytes spec_after_continuation spec_message_of_size spec_sized_message message_at spec_pair_at spec_metadata_at spec_bare_at spec_integer_at spec_decimal_at spec_key_at spec_encoding_at spec_field_at spec_projected_fields_at spec_projected_schema_at spec_projected_schema_in_message stream_projected_schema_at spec_type_number
keyed_read = rw no_text refl

abbrev pub AreStored : Type 0
AreStored = (stream_projected_schema_at all strings_message ≡ Ok (strings_tree, [])) × (stream_projected_schema_at all binaries_message ≡ Ok (binaries_tree, [])) × (stream_projected_schema_at all small_message ≡ Ok (small_tree, [])) × (stream_projected_schema_at all medium_message ≡ Ok (medium_tree, [])) × (stream_projected_schema_at all keyed_message ≡ Ok (keyed_tree, []))

pub stored : AreStored
stored = (strings_read, binaries_read, small_read, medium_read, keyed_read)

-- ---- names and precisions

-- of these names the last is free
abbrev pub names : List Letters
names = codes "tiekvorn.binary_view" ∷ codes "tiekvorn.utf8_view" ∷ codes "tiekvorn.decimal32" ∷ codes "tiekvorn.decimal64" ∷ codes "tiekvorn.float16" ∷ codes "arrow.uuid" ∷ []

abbrev pub AreReserved : Type 0
AreReserved = map spec_is_reserved_name names ≡ true ∷ true ∷ true ∷ true ∷ true ∷ false ∷ []

pub reserved : AreReserved
reserved = refl

-- the most digits of each width, and one more
abbrev pub AreMostDigits : Type 0
AreMostDigits = (spec_decimal_of 9 2 32 ≡ Ok (spec_decimal32 9 2)) × (spec_decimal_of 10 2 32 ≡ Err TypeRange) × (spec_decimal_of 18 3 64 ≡ Ok (spec_decimal64 18 3)) × (spec_decimal_of 19 3 64 ≡ Err TypeRange) × (spec_decimal_of 1 0 16 ≡ Err TypeRange)

pub most_digits : AreMostDigits
most_digits = (refl, refl, refl, refl, refl)
