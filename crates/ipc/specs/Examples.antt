-- The stream of another writer, byte by byte: one field `a`, nullable, of 32 bits, and a batch of 7 and null.
use Rattle.std.specs.Prelude.{◌≡◌, ℕ, true, List, [], ◌∷◌, ◌++◌, Some, None, Result, Ok, refl}
use Rattle.std.specs.Str.{is_utf8}
use Rattle.std.proofs.Common.{rules, arith, ap, ◌∙◌}
use Rattle.std.proofs.lemmas.Str.{IsUtf8-from_ascii, is_utf8-from_IsUtf8}
use Rattle.nest_memory.specs.Bits.{bit, bits_from}
use Rattle.ipc_flatbuf.specs.Flatbuffers.{spec_offset_at, spec_back_from, spec_table_at, spec_field_position, spec_charge_budget, spec_read_table, spec_read_vector, spec_read_string, tables_at, structs_at, spec_items_at, vector_at, spec_str_at}
use Rattle.ipc_flatbuf.specs.Messages.{root_at, spec_first_bytes, spec_after_continuation, spec_message_of_size, spec_sized_message, message_at}
use Rattle.ipc_flatbuf.specs.ReadResults.{◌>>=◌}
use Rattle.ipc_flatbuf.specs.declared.error.IpcReadError.{IpcReadError}
use Rattle.ipc_schema.specs.Dictionaries.{DictionaryTypesModel, no_dictionaries}
use Rattle.ipc_schema.specs.OutermostIds.{outermost_within}
use Rattle.ipc_schema.specs.StoredArrays.{arrays_of_each}
use Rattle.ipc_schema.specs.ProjectionLaws.{all_projected, stream_projection_of_all_is_schema}
use Rattle.ipc_schema.specs.ProjectedSchemas.{stream_projected_schema_at}
use Rattle.ipc_schema.specs.Projections.{all}
use Rattle.ipc_schema.specs.Schemas.{SchemaModel, spec_pair_at, spec_metadata_at, spec_integer_at, spec_field_at, spec_schema_at, stored_schema_of_stream}
use Rattle.ipc_schema.specs.FieldVectors.{tables_in_turn}
use Rattle.ipc_schema.specs.Examples as schemas
use Rattle.ipc_flatbuf.specs.Compression.{compression_at}
use Rattle.ipc_flatbuf.specs.Batches.{spec_each_within, spec_all_within, batch_at}
use Rattle.ipc_flatbuf.specs.BatchExamples as batches
use Rattle.ipc_arrays.specs.FixedWidth.{decoded_natives}
use Rattle.ipc_arrays.specs.Decoding.{first_counts, buffer_slice, first_buffer, decoded_bits, decoded_validity, decoded_node, decoded_buffer, decoded_validity_buffer, decoded_values, decoded_primitive}
use Rattle.ipc_arrays.specs.Projection.{decoded_steps, decoded_projection}
use Rattle.ipc_arrays.specs.Examples as columns
use Rattle.ipc.specs.Streams.{RecordBatchTree, StateTree, StreamTree, start, record_batch_in, message_in, first_in, projected_stream_in, stream_in}
use Rattle.ipc.specs.StreamLaws.{by_message, one_by_one}

abbrev pub end_mark : List ℕ
end_mark = 255 ∷ 255 ∷ 255 ∷ 255 ∷ 0 ∷ 0 ∷ 0 ∷ 0 ∷ []

-- the bytes after the schema
abbrev pub worked_rest : List ℕ
worked_rest = batches.worked_message ++ (batches.worked_body ++ end_mark)

abbrev pub worked_stream : List ℕ
worked_stream = schemas.worked_message ++ worked_rest

abbrev pub worked_arrays : RecordBatchTree
worked_arrays = record { rows = 2; columns = columns.worked_column ∷ [] }

abbrev pub worked_tree : StreamTree
worked_tree = record { schema = schemas.worked_tree; batches = worked_arrays ∷ []; read = 296 }

abbrev pub worked_state : StateTree
worked_state = start (all_projected schemas.worked_tree no_dictionaries)

is_text : is_utf8 (97 ∷ []) ≡ true
is_text = is_utf8-from_IsUtf8 (97 ∷ []) (IsUtf8-from_ascii (97 ∷ []) (search (rules, arith)))

worked_keyed : stored_schema_of_stream worked_stream ≡ Ok ((schemas.worked_tree, no_dictionaries), worked_rest)
unfolding spec_offset_at spec_back_from spec_table_at spec_field_position spec_charge_budget spec_read_table spec_read_vector spec_read_string tables_at tables_in_turn spec_items_at spec_str_at root_at spec_first_bytes spec_after_continuation spec_message_of_size spec_sized_message message_at spec_pair_at spec_metadata_at spec_integer_at spec_field_at spec_schema_at stored_schema_of_stream
worked_keyed = rw is_text refl

pub worked_schema : stream_projected_schema_at all worked_stream ≡ Ok (all_projected schemas.worked_tree no_dictionaries, worked_rest)
worked_schema = stream_projection_of_all_is_schema worked_stream ∙ ap (λ (r : Result ((SchemaModel × DictionaryTypesModel) × List ℕ) IpcReadError). r >>= λ x. Ok (all_projected x.0.0 x.0.1, x.1)) worked_keyed

pub worked_next : first_in worked_state worked_rest ≡ Ok ((Some worked_arrays, worked_state), end_mark)
unfolding spec_offset_at spec_back_from spec_table_at spec_field_position spec_charge_budget spec_read_table spec_read_vector structs_at spec_items_at vector_at root_at spec_first_bytes spec_after_continuation spec_message_of_size spec_sized_message message_at spec_each_within spec_all_within compression_at batch_at bit bits_from decoded_natives first_counts buffer_slice first_buffer decoded_bits decoded_validity decoded_node decoded_buffer decoded_validity_buffer decoded_values decoded_primitive decoded_steps decoded_projection outermost_within record_batch_in message_in arrays_of_each
worked_next = refl

pub worked_end : first_in worked_state end_mark ≡ Ok ((None, worked_state), [])
unfolding spec_first_bytes spec_after_continuation spec_sized_message message_at
worked_end = refl

pub worked_whole : stream_in worked_stream ≡ Ok worked_tree
unfolding projected_stream_in
worked_whole = rw (worked_schema, one_by_one worked_state worked_rest, by_message worked_state worked_rest, worked_next, one_by_one worked_state end_mark, by_message worked_state end_mark, worked_end) refl
