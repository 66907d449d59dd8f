-- Worked examples: projections of the schemas of other writers, with the nodes and buffers of skipped columns.
use Rattle.std.specs.Prelude.{◌≡◌, ℕ, pos, Bool, true, false, List, [], ◌∷◌, map, Some, None, Ok, Err, refl}
use Rattle.std.specs.Str.{is_utf8}
use Rattle.std.proofs.Common.{rules, arith}
use Rattle.std.proofs.lemmas.Str.{IsUtf8-from_ascii, is_utf8-from_IsUtf8}
use Rattle.nest_memory.specs.TypeTree as types
use Rattle.nest_memory.specs.TypeTree.{FieldTree, field, no_fields, more_fields}
use Rattle.nest_memory.specs.declared.datatypes.IntegerType.TheVariants.{Int8}
use Rattle.nest_memory.specs.declared.datatypes.UnionMode.TheVariants.{Dense, Sparse}
use Rattle.ipc_flatbuf.specs.declared.projection.SkippedField.{SkippedField}
use Rattle.ipc_flatbuf.specs.declared.projection.FieldAction.TheVariants.{Read, Skip}
use Rattle.ipc_flatbuf.specs.declared.projection.StoredArray.TheVariants.{Plain, Skipped}
use Rattle.ipc_flatbuf.specs.declared.error.IpcReadError.TheVariants.{Version, MissingType, UnknownType}
use Rattle.ipc_flatbuf.specs.declared.message.types.MetadataVersion.TheVariants.{V4}
use Rattle.ipc_flatbuf.specs.Flatbuffers.{spec_offset_at, spec_back_from, spec_table_at, spec_field_position, spec_charge_budget, spec_read_table, spec_read_vector, spec_read_string, tables_at, spec_items_at, spec_str_at}
use Rattle.ipc_flatbuf.specs.Messages.{root_at, spec_first_bytes, spec_after_continuation, spec_message_of_size, spec_sized_message, message_at}
use Rattle.nest_memory.specs.declared.datatypes.floats.Precision.TheVariants.{Double}
use Rattle.nest_memory.specs.Floats.{spec_float_type}
use Rattle.ipc_schema.specs.Types.{spec_bare_at, spec_integer_at, spec_float_at}
use Rattle.ipc_schema.specs.Dictionaries.{no_dictionaries, spec_key_at, spec_encoding_at}
use Rattle.ipc_schema.specs.SchemaBytes.{spec_type_number}
use Rattle.ipc_schema.specs.FieldVectors.{tables_in_turn}
use Rattle.ipc_schema.specs.Schemas.{spec_pair_at, spec_metadata_at, spec_field_at}
use Rattle.ipc_schema.specs.SkippedFields.{spec_nothing_skipped, spec_table_position, spec_mode_buffers, spec_skipped_with, spec_plain_buffers, spec_union_buffers, spec_skipped_fields_at, spec_skipped_field_at}
use Rattle.ipc_schema.specs.Projections.{at, named, spec_name_at}
use Rattle.ipc_schema.specs.ProjectedSchemas.{ProjectedSchemaModel, spec_projected_fields_at, spec_check_projected_version, spec_projected_schema_at, spec_projected_schema_in_message, stream_projected_schema_at}

-- ---- the buffers of an array by its tag from 1; those of a union, tag 14, depend on its mode

abbrev pub AreCounted : Type 0
AreCounted = map spec_plain_buffers (1 ∷ 2 ∷ 3 ∷ 4 ∷ 5 ∷ 6 ∷ 7 ∷ 8 ∷ 9 ∷ 10 ∷ 11 ∷ 12 ∷ 13 ∷ 14 ∷ 15 ∷ 16 ∷ 17 ∷ 18 ∷ 19 ∷ 20 ∷ 21 ∷ 22 ∷ 23 ∷ 24 ∷ 25 ∷ 26 ∷ []) ≡ 0 ∷ 2 ∷ 2 ∷ 3 ∷ 3 ∷ 2 ∷ 2 ∷ 2 ∷ 2 ∷ 2 ∷ 2 ∷ 2 ∷ 1 ∷ 2 ∷ 2 ∷ 1 ∷ 2 ∷ 2 ∷ 3 ∷ 3 ∷ 2 ∷ 0 ∷ 2 ∷ 2 ∷ 3 ∷ 3 ∷ []

-- a sparse union has one, a dense one two
abbrev pub AreOfUnions : Type 0
AreOfUnions = (spec_mode_buffers Sparse ≡ 1) × (spec_mode_buffers Dense ≡ 2)

-- a type has a table and a tag from 1 to 26
abbrev pub AreTags : Type 0
AreTags = (spec_table_position 1 None ≡ Err MissingType) × (spec_table_position 0 (Some 5) ≡ Err MissingType) × (spec_table_position 1 (Some 5) ≡ Ok 5) × (spec_table_position 26 (Some 5) ≡ Ok 5) × (spec_table_position 27 (Some 5) ≡ Err UnknownType)

abbrev span : ℕ → ℕ → ℕ → Bool → Bool → SkippedField
span nodes buffers views union dictionary = record { nodes = nodes; buffers = buffers; views = views; has_union = union; has_dictionary = dictionary }

-- a parent of two nodes, three buffers and a view: a struct, a union, a view, and a dictionary of such structs
abbrev pub AreOver : Type 0
AreOver = (spec_skipped_with false 13 1 (span 2 3 1 false true) ≡ span 3 4 1 false true)
    × (spec_skipped_with false 14 2 (span 2 3 1 false false) ≡ span 3 5 1 true false)
    × (spec_skipped_with false 24 2 spec_nothing_skipped ≡ span 1 2 1 false false)
    × (spec_skipped_with true 13 1 (span 2 3 1 true false) ≡ span 1 2 0 true true)

pub counted : AreCounted
counted = refl

pub of_unions : AreOfUnions
of_unions = (refl, refl)

pub tags : AreTags
tags = (refl, refl, refl, refl, refl)

pub over : AreOver
over = (refl, refl, refl, refl)

-- ---- strings

text_a : is_utf8 (97 ∷ []) ≡ true
text_a = is_utf8-from_IsUtf8 (97 ∷ []) (IsUtf8-from_ascii (97 ∷ []) (search (rules, arith)))

-- three fields, integers, floats and strings, of which the first and the last are read
abbrev pub doubles_message : List ℕ
doubles_message =
    255 ∷ 255 ∷ 255 ∷ 255 ∷ 248 ∷ 0 ∷ 0 ∷ 0 ∷ 16 ∷ 0 ∷ 0 ∷ 0 ∷ 10 ∷ 0 ∷ 12 ∷ 0 ∷ 8 ∷ 0 ∷ 10 ∷ 0 ∷ 4 ∷ 0 ∷ 0 ∷ 0 ∷ 12 ∷ 0 ∷ 0 ∷ 0 ∷ 16 ∷ 0 ∷ 0 ∷ 0 ∷ 4 ∷ 0 ∷ 1 ∷ 0 ∷ 8 ∷ 0 ∷ 8 ∷ 0 ∷ 0 ∷ 0 ∷ 4 ∷ 0 ∷ 8 ∷ 0 ∷ 0 ∷ 0 ∷ 4 ∷ 0 ∷ 0 ∷ 0 ∷ 3 ∷ 0 ∷ 0 ∷ 0 ∷ 28 ∷ 0 ∷ 0 ∷ 0 ∷ 92 ∷ 0 ∷ 0 ∷ 0 ∷ 152 ∷ 0 ∷ 0 ∷ 0 ∷ 16 ∷ 0 ∷ 20 ∷ 0 ∷ 4 ∷ 0 ∷ 16 ∷ 0 ∷ 17 ∷ 0 ∷ 8 ∷ 0 ∷ 0 ∷ 0 ∷ 12 ∷ 0 ∷ 16 ∷ 0 ∷ 0 ∷ 0 ∷ 16 ∷ 0 ∷ 0 ∷ 0 ∷ 28 ∷ 0 ∷ 0 ∷ 0 ∷ 36 ∷ 0 ∷ 0 ∷ 0 ∷ 1 ∷ 2 ∷ 0 ∷ 0 ∷ 1 ∷ 0 ∷ 0 ∷ 0 ∷ 97 ∷ 0 ∷ 0 ∷ 0 ∷ 8 ∷ 0 ∷ 12 ∷ 0 ∷ 4 ∷ 0 ∷ 8 ∷ 0 ∷ 8 ∷ 0 ∷ 0 ∷ 0 ∷ 32 ∷ 0 ∷ 0 ∷ 0 ∷ 1 ∷ 0 ∷ 0 ∷ 0 ∷ 0 ∷ 0 ∷ 0 ∷ 0 ∷ 16 ∷ 0 ∷ 20 ∷ 0 ∷ 0 ∷ 0 ∷ 16 ∷ 0 ∷ 17 ∷ 0 ∷ 8 ∷ 0 ∷ 0 ∷ 0 ∷ 12 ∷ 0 ∷ 16 ∷ 0 ∷ 0 ∷ 0 ∷ 16 ∷ 0 ∷ 0 ∷ 0 ∷ 28 ∷ 0 ∷ 0 ∷ 0 ∷ 32 ∷ 0 ∷ 0 ∷ 0 ∷ 1 ∷ 3 ∷ 0 ∷ 0 ∷ 0 ∷ 0 ∷ 0 ∷ 0 ∷ 0 ∷ 0 ∷ 0 ∷ 0 ∷ 6 ∷ 0 ∷ 8 ∷ 0 ∷ 4 ∷ 0 ∷ 0 ∷ 0 ∷ 8 ∷ 0 ∷ 0 ∷ 0 ∷ 2 ∷ 0 ∷ 0 ∷ 0 ∷ 0 ∷ 0 ∷ 0 ∷ 0 ∷ 16 ∷ 0 ∷ 20 ∷ 0 ∷ 0 ∷ 0 ∷ 16 ∷ 0 ∷ 17 ∷ 0 ∷ 8 ∷ 0 ∷ 0 ∷ 0 ∷ 12 ∷ 0 ∷ 16 ∷ 0 ∷ 0 ∷ 0 ∷ 16 ∷ 0 ∷ 0 ∷ 0 ∷ 24 ∷ 0 ∷ 0 ∷ 0 ∷ 24 ∷ 0 ∷ 0 ∷ 0 ∷ 1 ∷ 5 ∷ 0 ∷ 0 ∷ 0 ∷ 0 ∷ 0 ∷ 0 ∷ 0 ∷ 0 ∷ 0 ∷ 0 ∷ 4 ∷ 0 ∷ 4 ∷ 0 ∷ 4 ∷ 0 ∷ 0 ∷ 0 ∷ 0 ∷ 0 ∷ 0 ∷ 0 ∷ []

abbrev pub doubles_tree : ProjectedSchemaModel
doubles_tree = record { schema = record { fields = field (97 ∷ []) types.int32 true [] ∷ field [] types.utf8 true [] ∷ []; metadata = [] }; steps = Read ∷ Skip (record { nodes = 1; buffers = 2; views = 0; has_union = false; has_dictionary = false }) ∷ Read ∷ []; arrays = Plain 2 ∷ Skipped (record { nodes = 1; buffers = 2; views = 0; has_union = false; has_dictionary = false }) ∷ Plain 3 ∷ []; seen = no_dictionaries }

pub doubles_is : stream_projected_schema_at (at (2 ∷ 0 ∷ 7 ∷ [])) doubles_message ≡ Ok (doubles_tree, [])
unfolding spec_offset_at spec_back_from spec_table_at spec_field_position spec_charge_budget spec_read_table spec_read_vector spec_read_string tables_at tables_in_turn spec_items_at spec_str_at root_at spec_first_bytes spec_after_continuation spec_message_of_size spec_sized_message message_at spec_pair_at spec_metadata_at spec_bare_at spec_integer_at spec_field_at spec_union_buffers spec_skipped_fields_at spec_skipped_field_at spec_name_at spec_projected_fields_at spec_projected_schema_at spec_projected_schema_in_message stream_projected_schema_at spec_type_number
doubles_is = rw text_a refl

-- by name: the second and the third have none
abbrev pub unnamed_tree : ProjectedSchemaModel
unnamed_tree = record { schema = record { fields = field [] (spec_float_type Double) true [] ∷ field [] types.utf8 true [] ∷ []; metadata = [] }; steps = Skip (record { nodes = 1; buffers = 2; views = 0; has_union = false; has_dictionary = false }) ∷ Read ∷ Read ∷ []; arrays = Skipped (record { nodes = 1; buffers = 2; views = 0; has_union = false; has_dictionary = false }) ∷ Plain 2 ∷ Plain 3 ∷ []; seen = no_dictionaries }

pub unnamed_is : stream_projected_schema_at (named ((98 ∷ []) ∷ [] ∷ [])) doubles_message ≡ Ok (unnamed_tree, [])
unfolding spec_offset_at spec_back_from spec_table_at spec_field_position spec_charge_budget spec_read_table spec_read_vector spec_read_string tables_at tables_in_turn spec_items_at spec_str_at root_at spec_first_bytes spec_after_continuation spec_message_of_size spec_sized_message message_at spec_pair_at spec_metadata_at spec_bare_at spec_integer_at spec_float_at spec_field_at spec_union_buffers spec_skipped_fields_at spec_skipped_field_at spec_name_at spec_projected_fields_at spec_projected_schema_at spec_projected_schema_in_message stream_projected_schema_at spec_type_number
unnamed_is = rw text_a refl

-- string and binary views, integers and strings
abbrev pub views_message : List ℕ
views_message =
    255 ∷ 255 ∷ 255 ∷ 255 ∷ 48 ∷ 1 ∷ 0 ∷ 0 ∷ 16 ∷ 0 ∷ 0 ∷ 0 ∷ 10 ∷ 0 ∷ 12 ∷ 0 ∷ 8 ∷ 0 ∷ 10 ∷ 0 ∷ 4 ∷ 0 ∷ 0 ∷ 0 ∷ 12 ∷ 0 ∷ 0 ∷ 0 ∷ 16 ∷ 0 ∷ 0 ∷ 0 ∷ 4 ∷ 0 ∷ 1 ∷ 0 ∷ 8 ∷ 0 ∷ 8 ∷ 0 ∷ 0 ∷ 0 ∷ 4 ∷ 0 ∷ 8 ∷ 0 ∷ 0 ∷ 0 ∷ 4 ∷ 0 ∷ 0 ∷ 0 ∷ 4 ∷ 0 ∷ 0 ∷ 0 ∷ 32 ∷ 0 ∷ 0 ∷ 0 ∷ 84 ∷ 0 ∷ 0 ∷ 0 ∷ 148 ∷ 0 ∷ 0 ∷ 0 ∷ 200 ∷ 0 ∷ 0 ∷ 0 ∷ 16 ∷ 0 ∷ 20 ∷ 0 ∷ 0 ∷ 0 ∷ 16 ∷ 0 ∷ 17 ∷ 0 ∷ 8 ∷ 0 ∷ 0 ∷ 0 ∷ 12 ∷ 0 ∷ 16 ∷ 0 ∷ 0 ∷ 0 ∷ 16 ∷ 0 ∷ 0 ∷ 0 ∷ 24 ∷ 0 ∷ 0 ∷ 0 ∷ 24 ∷ 0 ∷ 0 ∷ 0 ∷ 1 ∷ 24 ∷ 0 ∷ 0 ∷ 0 ∷ 0 ∷ 0 ∷ 0 ∷ 0 ∷ 0 ∷ 0 ∷ 0 ∷ 4 ∷ 0 ∷ 4 ∷ 0 ∷ 4 ∷ 0 ∷ 0 ∷ 0 ∷ 0 ∷ 0 ∷ 0 ∷ 0 ∷ 16 ∷ 0 ∷ 20 ∷ 0 ∷ 0 ∷ 0 ∷ 16 ∷ 0 ∷ 17 ∷ 0 ∷ 8 ∷ 0 ∷ 0 ∷ 0 ∷ 12 ∷ 0 ∷ 16 ∷ 0 ∷ 0 ∷ 0 ∷ 16 ∷ 0 ∷ 0 ∷ 0 ∷ 28 ∷ 0 ∷ 0 ∷ 0 ∷ 36 ∷ 0 ∷ 0 ∷ 0 ∷ 1 ∷ 2 ∷ 0 ∷ 0 ∷ 0 ∷ 0 ∷ 0 ∷ 0 ∷ 0 ∷ 0 ∷ 0 ∷ 0 ∷ 8 ∷ 0 ∷ 12 ∷ 0 ∷ 4 ∷ 0 ∷ 8 ∷ 0 ∷ 8 ∷ 0 ∷ 0 ∷ 0 ∷ 32 ∷ 0 ∷ 0 ∷ 0 ∷ 1 ∷ 0 ∷ 0 ∷ 0 ∷ 0 ∷ 0 ∷ 0 ∷ 0 ∷ 16 ∷ 0 ∷ 20 ∷ 0 ∷ 0 ∷ 0 ∷ 16 ∷ 0 ∷ 17 ∷ 0 ∷ 8 ∷ 0 ∷ 0 ∷ 0 ∷ 12 ∷ 0 ∷ 16 ∷ 0 ∷ 0 ∷ 0 ∷ 16 ∷ 0 ∷ 0 ∷ 0 ∷ 24 ∷ 0 ∷ 0 ∷ 0 ∷ 24 ∷ 0 ∷ 0 ∷ 0 ∷ 1 ∷ 23 ∷ 0 ∷ 0 ∷ 0 ∷ 0 ∷ 0 ∷ 0 ∷ 0 ∷ 0 ∷ 0 ∷ 0 ∷ 4 ∷ 0 ∷ 4 ∷ 0 ∷ 4 ∷ 0 ∷ 0 ∷ 0 ∷ 0 ∷ 0 ∷ 0 ∷ 0 ∷ 16 ∷ 0 ∷ 20 ∷ 0 ∷ 0 ∷ 0 ∷ 16 ∷ 0 ∷ 17 ∷ 0 ∷ 8 ∷ 0 ∷ 0 ∷ 0 ∷ 12 ∷ 0 ∷ 16 ∷ 0 ∷ 0 ∷ 0 ∷ 16 ∷ 0 ∷ 0 ∷ 0 ∷ 24 ∷ 0 ∷ 0 ∷ 0 ∷ 24 ∷ 0 ∷ 0 ∷ 0 ∷ 1 ∷ 5 ∷ 0 ∷ 0 ∷ 0 ∷ 0 ∷ 0 ∷ 0 ∷ 0 ∷ 0 ∷ 0 ∷ 0 ∷ 4 ∷ 0 ∷ 4 ∷ 0 ∷ 4 ∷ 0 ∷ 0 ∷ 0 ∷ 0 ∷ 0 ∷ 0 ∷ 0 ∷ 0 ∷ 0 ∷ 0 ∷ 0 ∷ []

abbrev pub views_tree : ProjectedSchemaModel
views_tree = record { schema = record { fields = field [] types.int32 true [] ∷ field [] types.utf8 true [] ∷ []; metadata = [] }; steps = Skip (record { nodes = 1; buffers = 2; views = 1; has_union = false; has_dictionary = false }) ∷ Read ∷ Skip (record { nodes = 1; buffers = 2; views = 1; has_union = false; has_dictionary = false }) ∷ Read ∷ []; arrays = Skipped (record { nodes = 1; buffers = 2; views = 1; has_union = false; has_dictionary = false }) ∷ Plain 2 ∷ Skipped (record { nodes = 1; buffers = 2; views = 1; has_union = false; has_dictionary = false }) ∷ Plain 3 ∷ []; seen = no_dictionaries }

pub views_is : stream_projected_schema_at (at (1 ∷ 3 ∷ [])) views_message ≡ Ok (views_tree, [])
unfolding spec_offset_at spec_back_from spec_table_at spec_field_position spec_charge_budget spec_read_table spec_read_vector spec_read_string tables_at tables_in_turn spec_items_at spec_str_at root_at spec_first_bytes spec_after_continuation spec_message_of_size spec_sized_message message_at spec_pair_at spec_metadata_at spec_bare_at spec_integer_at spec_field_at spec_union_buffers spec_skipped_fields_at spec_skipped_field_at spec_name_at spec_projected_fields_at spec_projected_schema_at spec_projected_schema_in_message stream_projected_schema_at spec_type_number
views_is = refl

-- run-end encoded float16, a list view, a struct of a dense union and a float, a struct of a dictionary; only the last is read
abbrev pub odd_message : List ℕ
odd_message =
    255 ∷ 255 ∷ 255 ∷ 255 ∷ 200 ∷ 3 ∷ 0 ∷ 0 ∷ 16 ∷ 0 ∷ 0 ∷ 0 ∷ 10 ∷ 0 ∷ 12 ∷ 0 ∷ 8 ∷ 0 ∷ 10 ∷ 0 ∷ 4 ∷ 0 ∷ 0 ∷ 0 ∷ 12 ∷ 0 ∷ 0 ∷ 0 ∷ 16 ∷ 0 ∷ 0 ∷ 0 ∷ 4 ∷ 0 ∷ 1 ∷ 0 ∷ 8 ∷ 0 ∷ 8 ∷ 0 ∷ 0 ∷ 0 ∷ 4 ∷ 0 ∷ 8 ∷ 0 ∷ 0 ∷ 0 ∷ 4 ∷ 0 ∷ 0 ∷ 0 ∷ 5 ∷ 0 ∷ 0 ∷ 0 ∷ 36 ∷ 0 ∷ 0 ∷ 0 ∷ 240 ∷ 0 ∷ 0 ∷ 0 ∷ 112 ∷ 1 ∷ 0 ∷ 0 ∷ 176 ∷ 2 ∷ 0 ∷ 0 ∷ 84 ∷ 3 ∷ 0 ∷ 0 ∷ 16 ∷ 0 ∷ 20 ∷ 0 ∷ 0 ∷ 0 ∷ 16 ∷ 0 ∷ 17 ∷ 0 ∷ 8 ∷ 0 ∷ 0 ∷ 0 ∷ 12 ∷ 0 ∷ 16 ∷ 0 ∷ 0 ∷ 0 ∷ 16 ∷ 0 ∷ 0 ∷ 0 ∷ 24 ∷ 0 ∷ 0 ∷ 0 ∷ 24 ∷ 0 ∷ 0 ∷ 0 ∷ 1 ∷ 22 ∷ 0 ∷ 0 ∷ 0 ∷ 0 ∷ 0 ∷ 0 ∷ 0 ∷ 0 ∷ 0 ∷ 0 ∷ 4 ∷ 0 ∷ 4 ∷ 0 ∷ 4 ∷ 0 ∷ 0 ∷ 0 ∷ 2 ∷ 0 ∷ 0 ∷ 0 ∷ 24 ∷ 0 ∷ 0 ∷ 0 ∷ 96 ∷ 0 ∷ 0 ∷ 0 ∷ 16 ∷ 0 ∷ 20 ∷ 0 ∷ 4 ∷ 0 ∷ 16 ∷ 0 ∷ 17 ∷ 0 ∷ 8 ∷ 0 ∷ 0 ∷ 0 ∷ 12 ∷ 0 ∷ 16 ∷ 0 ∷ 0 ∷ 0 ∷ 16 ∷ 0 ∷ 0 ∷ 0 ∷ 36 ∷ 0 ∷ 0 ∷ 0 ∷ 44 ∷ 0 ∷ 0 ∷ 0 ∷ 0 ∷ 2 ∷ 0 ∷ 0 ∷ 8 ∷ 0 ∷ 0 ∷ 0 ∷ 114 ∷ 117 ∷ 110 ∷ 95 ∷ 101 ∷ 110 ∷ 100 ∷ 115 ∷ 0 ∷ 0 ∷ 0 ∷ 0 ∷ 8 ∷ 0 ∷ 12 ∷ 0 ∷ 4 ∷ 0 ∷ 8 ∷ 0 ∷ 8 ∷ 0 ∷ 0 ∷ 0 ∷ 32 ∷ 0 ∷ 0 ∷ 0 ∷ 1 ∷ 0 ∷ 0 ∷ 0 ∷ 0 ∷ 0 ∷ 0 ∷ 0 ∷ 16 ∷ 0 ∷ 20 ∷ 0 ∷ 4 ∷ 0 ∷ 16 ∷ 0 ∷ 17 ∷ 0 ∷ 8 ∷ 0 ∷ 0 ∷ 0 ∷ 12 ∷ 0 ∷ 16 ∷ 0 ∷ 0 ∷ 0 ∷ 16 ∷ 0 ∷ 0 ∷ 0 ∷ 32 ∷ 0 ∷ 0 ∷ 0 ∷ 36 ∷ 0 ∷ 0 ∷ 0 ∷ 1 ∷ 3 ∷ 0 ∷ 0 ∷ 6 ∷ 0 ∷ 0 ∷ 0 ∷ 118 ∷ 97 ∷ 108 ∷ 117 ∷ 101 ∷ 115 ∷ 0 ∷ 0 ∷ 6 ∷ 0 ∷ 8 ∷ 0 ∷ 4 ∷ 0 ∷ 0 ∷ 0 ∷ 8 ∷ 0 ∷ 0 ∷ 0 ∷ 0 ∷ 0 ∷ 0 ∷ 0 ∷ 0 ∷ 0 ∷ 0 ∷ 0 ∷ 16 ∷ 0 ∷ 20 ∷ 0 ∷ 0 ∷ 0 ∷ 16 ∷ 0 ∷ 17 ∷ 0 ∷ 8 ∷ 0 ∷ 0 ∷ 0 ∷ 12 ∷ 0 ∷ 16 ∷ 0 ∷ 0 ∷ 0 ∷ 16 ∷ 0 ∷ 0 ∷ 0 ∷ 24 ∷ 0 ∷ 0 ∷ 0 ∷ 24 ∷ 0 ∷ 0 ∷ 0 ∷ 1 ∷ 25 ∷ 0 ∷ 0 ∷ 0 ∷ 0 ∷ 0 ∷ 0 ∷ 0 ∷ 0 ∷ 0 ∷ 0 ∷ 4 ∷ 0 ∷ 4 ∷ 0 ∷ 4 ∷ 0 ∷ 0 ∷ 0 ∷ 1 ∷ 0 ∷ 0 ∷ 0 ∷ 20 ∷ 0 ∷ 0 ∷ 0 ∷ 16 ∷ 0 ∷ 20 ∷ 0 ∷ 4 ∷ 0 ∷ 16 ∷ 0 ∷ 17 ∷ 0 ∷ 8 ∷ 0 ∷ 0 ∷ 0 ∷ 12 ∷ 0 ∷ 16 ∷ 0 ∷ 0 ∷ 0 ∷ 16 ∷ 0 ∷ 0 ∷ 0 ∷ 32 ∷ 0 ∷ 0 ∷ 0 ∷ 40 ∷ 0 ∷ 0 ∷ 0 ∷ 1 ∷ 2 ∷ 0 ∷ 0 ∷ 4 ∷ 0 ∷ 0 ∷ 0 ∷ 105 ∷ 116 ∷ 101 ∷ 109 ∷ 0 ∷ 0 ∷ 0 ∷ 0 ∷ 8 ∷ 0 ∷ 12 ∷ 0 ∷ 4 ∷ 0 ∷ 8 ∷ 0 ∷ 8 ∷ 0 ∷ 0 ∷ 0 ∷ 32 ∷ 0 ∷ 0 ∷ 0 ∷ 1 ∷ 0 ∷ 0 ∷ 0 ∷ 0 ∷ 0 ∷ 0 ∷ 0 ∷ 16 ∷ 0 ∷ 20 ∷ 0 ∷ 0 ∷ 0 ∷ 16 ∷ 0 ∷ 17 ∷ 0 ∷ 8 ∷ 0 ∷ 0 ∷ 0 ∷ 12 ∷ 0 ∷ 16 ∷ 0 ∷ 0 ∷ 0 ∷ 16 ∷ 0 ∷ 0 ∷ 0 ∷ 24 ∷ 0 ∷ 0 ∷ 0 ∷ 24 ∷ 0 ∷ 0 ∷ 0 ∷ 1 ∷ 13 ∷ 0 ∷ 0 ∷ 0 ∷ 0 ∷ 0 ∷ 0 ∷ 0 ∷ 0 ∷ 0 ∷ 0 ∷ 4 ∷ 0 ∷ 4 ∷ 0 ∷ 4 ∷ 0 ∷ 0 ∷ 0 ∷ 2 ∷ 0 ∷ 0 ∷ 0 ∷ 24 ∷ 0 ∷ 0 ∷ 0 ∷ 216 ∷ 0 ∷ 0 ∷ 0 ∷ 16 ∷ 0 ∷ 20 ∷ 0 ∷ 4 ∷ 0 ∷ 16 ∷ 0 ∷ 17 ∷ 0 ∷ 8 ∷ 0 ∷ 0 ∷ 0 ∷ 12 ∷ 0 ∷ 16 ∷ 0 ∷ 0 ∷ 0 ∷ 16 ∷ 0 ∷ 0 ∷ 0 ∷ 28 ∷ 0 ∷ 0 ∷ 0 ∷ 32 ∷ 0 ∷ 0 ∷ 0 ∷ 1 ∷ 14 ∷ 0 ∷ 0 ∷ 1 ∷ 0 ∷ 0 ∷ 0 ∷ 117 ∷ 0 ∷ 0 ∷ 0 ∷ 6 ∷ 0 ∷ 8 ∷ 0 ∷ 4 ∷ 0 ∷ 0 ∷ 0 ∷ 8 ∷ 0 ∷ 0 ∷ 0 ∷ 1 ∷ 0 ∷ 0 ∷ 0 ∷ 2 ∷ 0 ∷ 0 ∷ 0 ∷ 24 ∷ 0 ∷ 0 ∷ 0 ∷ 88 ∷ 0 ∷ 0 ∷ 0 ∷ 16 ∷ 0 ∷ 20 ∷ 0 ∷ 4 ∷ 0 ∷ 16 ∷ 0 ∷ 17 ∷ 0 ∷ 8 ∷ 0 ∷ 0 ∷ 0 ∷ 12 ∷ 0 ∷ 16 ∷ 0 ∷ 0 ∷ 0 ∷ 16 ∷ 0 ∷ 0 ∷ 0 ∷ 28 ∷ 0 ∷ 0 ∷ 0 ∷ 36 ∷ 0 ∷ 0 ∷ 0 ∷ 1 ∷ 2 ∷ 0 ∷ 0 ∷ 1 ∷ 0 ∷ 0 ∷ 0 ∷ 105 ∷ 0 ∷ 0 ∷ 0 ∷ 8 ∷ 0 ∷ 12 ∷ 0 ∷ 4 ∷ 0 ∷ 8 ∷ 0 ∷ 8 ∷ 0 ∷ 0 ∷ 0 ∷ 32 ∷ 0 ∷ 0 ∷ 0 ∷ 1 ∷ 0 ∷ 0 ∷ 0 ∷ 0 ∷ 0 ∷ 0 ∷ 0 ∷ 16 ∷ 0 ∷ 20 ∷ 0 ∷ 4 ∷ 0 ∷ 16 ∷ 0 ∷ 17 ∷ 0 ∷ 8 ∷ 0 ∷ 0 ∷ 0 ∷ 12 ∷ 0 ∷ 16 ∷ 0 ∷ 0 ∷ 0 ∷ 16 ∷ 0 ∷ 0 ∷ 0 ∷ 24 ∷ 0 ∷ 0 ∷ 0 ∷ 24 ∷ 0 ∷ 0 ∷ 0 ∷ 1 ∷ 5 ∷ 0 ∷ 0 ∷ 1 ∷ 0 ∷ 0 ∷ 0 ∷ 116 ∷ 0 ∷ 0 ∷ 0 ∷ 4 ∷ 0 ∷ 4 ∷ 0 ∷ 4 ∷ 0 ∷ 0 ∷ 0 ∷ 0 ∷ 0 ∷ 0 ∷ 0 ∷ 16 ∷ 0 ∷ 20 ∷ 0 ∷ 4 ∷ 0 ∷ 16 ∷ 0 ∷ 17 ∷ 0 ∷ 8 ∷ 0 ∷ 0 ∷ 0 ∷ 12 ∷ 0 ∷ 16 ∷ 0 ∷ 0 ∷ 0 ∷ 16 ∷ 0 ∷ 0 ∷ 0 ∷ 28 ∷ 0 ∷ 0 ∷ 0 ∷ 32 ∷ 0 ∷ 0 ∷ 0 ∷ 1 ∷ 3 ∷ 0 ∷ 0 ∷ 1 ∷ 0 ∷ 0 ∷ 0 ∷ 100 ∷ 0 ∷ 0 ∷ 0 ∷ 6 ∷ 0 ∷ 8 ∷ 0 ∷ 4 ∷ 0 ∷ 0 ∷ 0 ∷ 8 ∷ 0 ∷ 0 ∷ 0 ∷ 2 ∷ 0 ∷ 0 ∷ 0 ∷ 0 ∷ 0 ∷ 0 ∷ 0 ∷ 16 ∷ 0 ∷ 20 ∷ 0 ∷ 0 ∷ 0 ∷ 16 ∷ 0 ∷ 17 ∷ 0 ∷ 8 ∷ 0 ∷ 0 ∷ 0 ∷ 12 ∷ 0 ∷ 16 ∷ 0 ∷ 0 ∷ 0 ∷ 16 ∷ 0 ∷ 0 ∷ 0 ∷ 24 ∷ 0 ∷ 0 ∷ 0 ∷ 24 ∷ 0 ∷ 0 ∷ 0 ∷ 1 ∷ 13 ∷ 0 ∷ 0 ∷ 0 ∷ 0 ∷ 0 ∷ 0 ∷ 0 ∷ 0 ∷ 0 ∷ 0 ∷ 4 ∷ 0 ∷ 4 ∷ 0 ∷ 4 ∷ 0 ∷ 0 ∷ 0 ∷ 1 ∷ 0 ∷ 0 ∷ 0 ∷ 20 ∷ 0 ∷ 0 ∷ 0 ∷ 16 ∷ 0 ∷ 24 ∷ 0 ∷ 0 ∷ 0 ∷ 20 ∷ 0 ∷ 21 ∷ 0 ∷ 8 ∷ 0 ∷ 16 ∷ 0 ∷ 12 ∷ 0 ∷ 16 ∷ 0 ∷ 0 ∷ 0 ∷ 20 ∷ 0 ∷ 0 ∷ 0 ∷ 28 ∷ 0 ∷ 0 ∷ 0 ∷ 76 ∷ 0 ∷ 0 ∷ 0 ∷ 32 ∷ 0 ∷ 0 ∷ 0 ∷ 1 ∷ 5 ∷ 0 ∷ 0 ∷ 0 ∷ 0 ∷ 0 ∷ 0 ∷ 0 ∷ 0 ∷ 0 ∷ 0 ∷ 4 ∷ 0 ∷ 4 ∷ 0 ∷ 4 ∷ 0 ∷ 0 ∷ 0 ∷ 8 ∷ 0 ∷ 20 ∷ 0 ∷ 8 ∷ 0 ∷ 16 ∷ 0 ∷ 8 ∷ 0 ∷ 0 ∷ 0 ∷ 0 ∷ 0 ∷ 0 ∷ 0 ∷ 3 ∷ 0 ∷ 0 ∷ 0 ∷ 0 ∷ 0 ∷ 0 ∷ 0 ∷ 12 ∷ 0 ∷ 0 ∷ 0 ∷ 8 ∷ 0 ∷ 12 ∷ 0 ∷ 4 ∷ 0 ∷ 8 ∷ 0 ∷ 8 ∷ 0 ∷ 0 ∷ 0 ∷ 8 ∷ 0 ∷ 0 ∷ 0 ∷ 1 ∷ 0 ∷ 0 ∷ 0 ∷ 0 ∷ 0 ∷ 0 ∷ 0 ∷ 16 ∷ 0 ∷ 20 ∷ 0 ∷ 0 ∷ 0 ∷ 16 ∷ 0 ∷ 17 ∷ 0 ∷ 8 ∷ 0 ∷ 0 ∷ 0 ∷ 12 ∷ 0 ∷ 16 ∷ 0 ∷ 0 ∷ 0 ∷ 16 ∷ 0 ∷ 0 ∷ 0 ∷ 28 ∷ 0 ∷ 0 ∷ 0 ∷ 36 ∷ 0 ∷ 0 ∷ 0 ∷ 1 ∷ 2 ∷ 0 ∷ 0 ∷ 0 ∷ 0 ∷ 0 ∷ 0 ∷ 0 ∷ 0 ∷ 0 ∷ 0 ∷ 8 ∷ 0 ∷ 12 ∷ 0 ∷ 4 ∷ 0 ∷ 8 ∷ 0 ∷ 8 ∷ 0 ∷ 0 ∷ 0 ∷ 32 ∷ 0 ∷ 0 ∷ 0 ∷ 1 ∷ 0 ∷ 0 ∷ 0 ∷ 0 ∷ 0 ∷ 0 ∷ 0 ∷ []

abbrev pub odd_tree : ProjectedSchemaModel
odd_tree = record { schema = record { fields = field [] types.int32 true [] ∷ []; metadata = [] }; steps = Skip (record { nodes = 3; buffers = 4; views = 0; has_union = false; has_dictionary = false }) ∷ Skip (record { nodes = 2; buffers = 5; views = 0; has_union = false; has_dictionary = false }) ∷ Skip (record { nodes = 5; buffers = 10; views = 0; has_union = true; has_dictionary = false }) ∷ Skip (record { nodes = 2; buffers = 3; views = 0; has_union = false; has_dictionary = true }) ∷ Read ∷ []; arrays = Skipped (record { nodes = 3; buffers = 4; views = 0; has_union = false; has_dictionary = false }) ∷ Skipped (record { nodes = 2; buffers = 5; views = 0; has_union = false; has_dictionary = false }) ∷ Skipped (record { nodes = 5; buffers = 10; views = 0; has_union = true; has_dictionary = false }) ∷ Skipped (record { nodes = 2; buffers = 3; views = 0; has_union = false; has_dictionary = true }) ∷ Plain 2 ∷ []; seen = no_dictionaries }

pub odd_is : stream_projected_schema_at (at (4 ∷ [])) odd_message ≡ Ok (odd_tree, [])
unfolding spec_offset_at spec_back_from spec_table_at spec_field_position spec_charge_budget spec_read_table spec_read_vector spec_read_string tables_at tables_in_turn spec_items_at spec_str_at root_at spec_first_bytes spec_after_continuation spec_message_of_size spec_sized_message message_at spec_pair_at spec_metadata_at spec_bare_at spec_integer_at spec_field_at spec_union_buffers spec_skipped_fields_at spec_skipped_field_at spec_name_at spec_projected_fields_at spec_projected_schema_at spec_projected_schema_in_message stream_projected_schema_at spec_type_number
odd_is = refl

-- the struct of a dictionary is also read
abbrev pub keyed_tree : ProjectedSchemaModel
keyed_tree = record { schema = record { fields = field [] (types.struct (more_fields (field [] (types.dictionary Int8 types.utf8 false) true []) no_fields)) true [] ∷ field [] types.int32 true [] ∷ []; metadata = [] }; steps = Skip (record { nodes = 3; buffers = 4; views = 0; has_union = false; has_dictionary = false }) ∷ Skip (record { nodes = 2; buffers = 5; views = 0; has_union = false; has_dictionary = false }) ∷ Skip (record { nodes = 5; buffers = 10; views = 0; has_union = true; has_dictionary = false }) ∷ Read ∷ Read ∷ []; arrays = Skipped (record { nodes = 3; buffers = 4; views = 0; has_union = false; has_dictionary = false }) ∷ Skipped (record { nodes = 2; buffers = 5; views = 0; has_union = false; has_dictionary = false }) ∷ Skipped (record { nodes = 5; buffers = 10; views = 0; has_union = true; has_dictionary = false }) ∷ Plain 1 ∷ Plain 2 ∷ Plain 2 ∷ []; seen = record { ids = pos 3 ∷ []; named = (pos 3, record { values = types.utf8; inside = [] }) ∷ [] } }

pub keyed_is : stream_projected_schema_at (at (3 ∷ 4 ∷ [])) odd_message ≡ Ok (keyed_tree, [])
unfolding spec_offset_at spec_back_from spec_table_at spec_field_position spec_charge_budget spec_read_table spec_read_vector spec_read_string tables_at tables_in_turn spec_items_at spec_str_at root_at spec_first_bytes spec_after_continuation spec_message_of_size spec_sized_message message_at spec_pair_at spec_metadata_at spec_bare_at spec_integer_at spec_key_at spec_encoding_at spec_field_at spec_union_buffers spec_skipped_fields_at spec_skipped_field_at spec_name_at spec_projected_fields_at spec_projected_schema_at spec_projected_schema_in_message stream_projected_schema_at spec_type_number
keyed_is = refl

-- a skipped union is an error in version V4
pub passed_union : spec_check_projected_version V4 [] odd_tree.steps ≡ Err Version
passed_union = refl

abbrev pub ArePicked : Type 0
ArePicked = (stream_projected_schema_at (at (2 ∷ 0 ∷ 7 ∷ [])) doubles_message ≡ Ok (doubles_tree, []))
    × (stream_projected_schema_at (named ((98 ∷ []) ∷ [] ∷ [])) doubles_message ≡ Ok (unnamed_tree, []))
    × (stream_projected_schema_at (at (1 ∷ 3 ∷ [])) views_message ≡ Ok (views_tree, []))
    × (stream_projected_schema_at (at (4 ∷ [])) odd_message ≡ Ok (odd_tree, []))
    × (stream_projected_schema_at (at (3 ∷ 4 ∷ [])) odd_message ≡ Ok (keyed_tree, []))
    × (spec_check_projected_version V4 [] odd_tree.steps ≡ Err Version)

pub picked : ArePicked
picked = (doubles_is, unnamed_is, views_is, odd_is, keyed_is, passed_union)
