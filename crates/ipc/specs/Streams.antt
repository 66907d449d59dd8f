-- The stream in bytes, in the order of reading. Source: Columnar format, "IPC Streaming Format". Skipped columns of a record batch are not decoded.
use Rattle.std.specs.Prelude.{ℕ, zero, suc, ◌-◌, ℤ, pos, List, [], ◌∷◌, map, length, Option, Some, None, is_some, Result, Ok, Err, Bool, true, false, not, ◌&&◌, ◌||◌, nat_lt, if◌then◌else◌}
use Rattle.std.specs.List.{filter, list_any}
use Rattle.std.specs.Int.{w8, w64}
use Rattle.std.specs.Map.{lookup}
use Rattle.std.specs.BTreeMap.{insert_entry, is_at}
use Rattle.std.specs.Ordering.{int_cmp, int_eq}
use Rattle.nest_memory.specs.TypeTree.{TypeTree, field_type}
use Rattle.nest_memory.specs.TypeOf.{field_of}
use Rattle.nest_memory.specs.declared.datatypes.field.Field.{Field}
use Rattle.nest_memory.specs.TypeEq.{same_type}
use Rattle.nest_memory.specs.declared.error.Error.{Error}
use Rattle.nest_memory.specs.declared.error.Error.TheVariants as errors
use Rattle.nest_model.specs.Layout.{Layout, layout_type}
use Rattle.nest_array.specs.Seen.{layout_of}
use Rattle.nest_array.specs.declared.any.AnyArray.{AnyArray}
use Rattle.nest_concat.specs.Laid.{joined_layout, joins_past}
use Rattle.ipc_flatbuf.specs.ReadResults.{◌>>=◌, check}
use Rattle.ipc_flatbuf.specs.declared.error.IpcReadError.{IpcReadError}
use Rattle.ipc_flatbuf.specs.declared.error.IpcReadError.TheVariants.{HeaderType, UnknownDictionary, MissingData, MissingDictionary, DuplicateDictionary, Delta, Memory}
use Rattle.ipc_flatbuf.specs.declared.projection.FieldAction.{FieldAction}
use Rattle.ipc_flatbuf.specs.declared.projection.StoredArray.{StoredArray}
use Rattle.ipc_flatbuf.specs.declared.projection.FieldAction.TheVariants.{Read, Skip}
use Rattle.ipc_flatbuf.specs.Flatbuffers.{number_at, signed_at, field, spec_offset_field, spec_read_table}
use Rattle.ipc_flatbuf.specs.declared.tables.FlatbufferTable.{FlatbufferTable}
use Rattle.ipc_flatbuf.specs.Messages.{MessageModel, message_at}
use Rattle.ipc_flatbuf.specs.declared.message.types.MessageKind.{MessageKind}
use Rattle.ipc_flatbuf.specs.declared.message.types.MessageKind.TheVariants.{Schema, DictionaryBatch, RecordBatch}
use Rattle.ipc_schema.specs.Dictionaries.{ValueTypeModel}
use Rattle.ipc_schema.specs.OutermostIds.{spec_outermost_ids}
use Rattle.ipc_schema.specs.Projections.{ProjectionModel, all}
use Rattle.ipc_schema.specs.ProjectedSchemas.{ProjectedSchemaModel, spec_check_projected_version, stream_projected_schema_at, projected_schema_of}
use Rattle.ipc_schema.specs.Schemas.{SchemaModel, schema_of}
use Rattle.ipc_schema.specs.StoredArrays.{stored_arrays}
use Rattle.ipc_schema.specs.StoredTypes.{read_type}
use Rattle.ipc_flatbuf.specs.declared.compression.codec.CompressionCodec.{CompressionCodec}
use Rattle.ipc_flatbuf.specs.Batches.{BatchModel, batch_at}
use Rattle.ipc_flatbuf.specs.VariadicBuffers.{variadic_buffer_counts_at}
use Rattle.ipc_flatbuf.specs.StoredArrays.{reads_as_stored, reads_views}
use Rattle.ipc_arrays.specs.Decoding.{Rest, with_buffers, decoded_column, checked_exhausted}
use Rattle.ipc_arrays.specs.Projection.{ProjectionState, decoded_projection}
use Rattle.ipc_arrays.specs.NeededBuffers.{spec_needed_buffers}
use Rattle.ipc_arrays.specs.Stored.{converted_batch}
use Rattle.ipc_arrays.specs.declared.cursor.ExpectedLength.TheVariants.{Rows}
use Rattle.ipc.specs.PlainBuffers.{plain_buffers, all_needed, without_dictionaries, ahead_with_buffers}
use Rattle.ipc.specs.UnionOffsets.{spec_union_offsets_overflow}
use Rattle.ipc.specs.declared.batch.Batch.{Batch}
use Rattle.ipc.specs.declared.state.KnownDictionaries.{KnownDictionaries}
use Rattle.ipc.specs.declared.state.DictionaryState as declared
use Rattle.ipc.specs.declared.stream.Stream.{Stream}

-- ---- the state of a reader

-- the values of each dictionary read so far, by id
abbrev pub Known : Type 0
Known = List (ℤ × Layout)

-- The state of a reader between two messages: the projection, the dictionaries read so far, and the appendable ids, which a delta may extend: no dictionary
-- nested in their values was replaced since these were read.
pub record StateTree : Type 0 where
  pub picked : ProjectedSchemaModel
  pub known : Known
  pub appendable : List ℤ

abbrev pub known_at : Known → ℤ → Option Layout
known_at known id = lookup (is_at (int_cmp id)) known

-- the values of each of these ids
abbrev pub values_at : Known → List ℤ → List (Option Layout)
values_at known ids = map (known_at known) ids

-- the field nodes and buffers of a record batch, and the values of its dictionary arrays
abbrev pub batch_rest : Known → List ℤ → BatchModel → Rest
batch_rest known ids batch = record { nodes = batch.nodes; buffers = batch.buffers; dictionaries = values_at known ids }

-- ---- record batches

-- a record batch: the number of rows, and the columns
pub record RecordBatchTree : Type 0 where
  pub rows : ℕ
  pub columns : List Layout

-- the data types of the columns of a schema
abbrev pub column_types : SchemaModel → List TypeTree
column_types s = map field_type s.fields

abbrev pub spec_has_views : FieldAction → Bool
spec_has_views Read = false
spec_has_views (Skip s) = nat_lt 0 s.views

abbrev pub spec_has_dictionary : FieldAction → Bool
spec_has_dictionary Read = false
spec_has_dictionary (Skip s) = s.has_dictionary

-- the variadic buffer counts, which are read only where a column with view arrays is skipped or read
abbrev pub spec_variadic_counts : ProjectedSchemaModel → MessageModel → Result (List ℤ) IpcReadError
spec_variadic_counts p m = if list_any spec_has_views p.steps || reads_views p.arrays then variadic_buffer_counts_at m.metadata m.root.header m.root.left else Ok []

-- the projected columns of nodes and buffers, which are decompressed first where the batch is compressed
abbrev pub plain_columns_in : Option CompressionCodec → ProjectedSchemaModel → ℕ → List ℕ → ProjectionState → Result (List Layout) IpcReadError
plain_columns_in compression p rows body ahead =
    plain_buffers compression body ahead.rest.buffers (spec_needed_buffers p.steps (column_types p.schema) ahead.more ahead.rest.buffers) >>= λ plain. decoded_projection p.steps (column_types p.schema) rows plain.1 (ahead_with_buffers ahead plain.0)

-- those of a batch in which some array is stored otherwise than it is read
abbrev pub converted_columns_in : Option CompressionCodec → ProjectedSchemaModel → ℕ → List ℕ → ProjectionState → Result (List Layout) IpcReadError
converted_columns_in compression p rows body ahead =
    converted_batch compression p.arrays body (without_dictionaries ahead) >>= λ batch. decoded_projection p.steps (column_types p.schema) rows batch.body (record { rest = with_buffers ahead.rest batch.buffers; more = batch.more })

abbrev pub columns_in : Option CompressionCodec → ProjectedSchemaModel → ℕ → List ℕ → ProjectionState → Result (List Layout) IpcReadError
columns_in compression p rows body ahead = if reads_as_stored p.arrays then plain_columns_in compression p rows body ahead else converted_columns_in compression p rows body ahead

-- the projected columns of a record batch, over the dictionaries read so far
unfoldable pub record_batch_in : StateTree → MessageModel → Result RecordBatchTree IpcReadError
record_batch_in s m = do
  batch ← batch_at m.metadata m.root.header m.root.left m.root.body_length
  more ← spec_variadic_counts s.picked m
  columns ← columns_in batch.compression s.picked batch.rows m.body (record { rest = batch_rest s.known (spec_outermost_ids s.picked.seen.named s.picked.seen.ids) batch; more = more })
  Ok (record { rows = batch.rows; columns = columns })

-- ---- dictionary batches: Message.fbs, table DictionaryBatch

-- what an id names: values, or nothing, where the id may belong to a skipped column
abbrev pub named_by : Option ValueTypeModel → Bool → Result (Option ValueTypeModel) IpcReadError
named_by (Some values) passed = Ok (Some values)
named_by None true = Ok None
named_by None false = Err UnknownDictionary

abbrev pub named_in : ProjectedSchemaModel → ℤ → Result (Option ValueTypeModel) IpcReadError
named_in p id = named_by (lookup (is_at (int_cmp id)) p.seen.named) (list_any spec_has_dictionary p.steps)

-- the position of the record batch, which a dictionary batch must have
abbrev pub spec_data_position : Option ℕ → Result ℕ IpcReadError
spec_data_position None = Err MissingData
spec_data_position (Some position) = Ok position

-- a delta needs an id with values; in a file an id has at most one batch that is no delta
abbrev pub spec_check_order : Bool → Bool → Bool → Result (Unit {0}) IpcReadError
spec_check_order once true there = check there MissingDictionary
spec_check_order true false true = Err DuplicateDictionary
spec_check_order once false there = Ok tt

-- the only column of a dictionary's record batch
abbrev pub spec_only_column : TypeTree → ℕ → List ℕ → Rest → Result Layout IpcReadError
spec_only_column t rows body rest = decoded_column t (Rows rows) body rest >>= λ column. checked_exhausted column.1 >>= λ all. Ok column.0

-- the same, of a batch that may be compressed
abbrev pub plain_column_in : Option CompressionCodec → TypeTree → ℕ → List ℕ → Rest → Result Layout IpcReadError
plain_column_in compression t rows body rest = plain_buffers compression body rest.buffers (Ok (all_needed rest.buffers)) >>= λ plain. spec_only_column t rows plain.1 (with_buffers rest plain.0)

-- the same, where some array of this type is stored otherwise than it is read
abbrev pub converted_column_in : Option CompressionCodec → TypeTree → ℕ → List ℕ → ProjectionState → Result Layout IpcReadError
converted_column_in compression t rows body ahead = converted_batch compression (stored_arrays t) body (without_dictionaries ahead) >>= λ batch. spec_only_column (read_type t) rows batch.body (with_buffers ahead.rest batch.buffers)

abbrev pub only_column_in : Option CompressionCodec → TypeTree → ℕ → List ℕ → ProjectionState → Result Layout IpcReadError
only_column_in compression t rows body ahead = if reads_as_stored (stored_arrays t) then plain_column_in compression t rows body ahead.rest else converted_column_in compression t rows body ahead

-- the variadic buffer counts in the record batch at a position, where it has view arrays
abbrev pub counts_of_arrays : List StoredArray → MessageModel → ℕ → ℕ → Result (List ℤ) IpcReadError
counts_of_arrays arrays m position left = if reads_views arrays then variadic_buffer_counts_at m.metadata position left else Ok []

-- whether these ids contain an id
abbrev pub spec_contains_id : List ℤ → ℤ → Bool
spec_contains_id ids id = list_any (λ other. int_eq other id) ids

-- whether an id is nested in these values
abbrev pub spec_has_nested : Option ValueTypeModel → ℤ → Bool
spec_has_nested None id = false
spec_has_nested (Some v) id = spec_contains_id v.inside id

-- when `id` gets new values, another id stays appendable unless its values hold `id`
abbrev pub spec_stays_appendable : ProjectedSchemaModel → ℤ → ℤ → Bool
spec_stays_appendable p id other = not (int_eq other id) && not (spec_has_nested (lookup (is_at (int_cmp other)) p.seen.named) id)

-- the appendable ids after an id gets new values: it is one of them
abbrev pub spec_appendable_after : ProjectedSchemaModel → ℤ → List ℤ → List ℤ
spec_appendable_after p id appendable = id ∷ filter (spec_stays_appendable p id) appendable

-- a state in which an id has new values
abbrev pub with_new : StateTree → ℤ → Layout → StateTree
with_new s id values = record { picked = s.picked; known = insert_entry int_cmp s.known id values; appendable = spec_appendable_after s.picked id s.appendable }

-- a state in which its values are extended to these
abbrev pub with_delta : StateTree → ℤ → Layout → StateTree
with_delta s id values = record { picked = s.picked; known = insert_entry int_cmp s.known id values; appendable = s.appendable }

-- values of one data type can be appended where nothing overflows: neither the concatenated array nor an offset of a dense union
abbrev pub can_join : Layout → Layout → Bool
can_join values more = same_type (layout_type values) (layout_type more) && (not (joins_past (values ∷ more ∷ [])) && not (spec_union_offsets_overflow values more))

-- values with others appended
abbrev pub spec_joined_values : Option Layout → Layout → Result Layout IpcReadError
spec_joined_values None more = Err Delta
spec_joined_values (Some values) more = check (can_join values more) Delta >>= λ fits. Ok (joined_layout (values ∷ more ∷ []))

-- A state after a dictionary batch: new values, or a delta, whose values are appended to those of the id. The id must be appendable, as its keys would otherwise
-- name other values.
abbrev pub spec_with_values : Bool → StateTree → ℤ → Layout → Result StateTree IpcReadError
spec_with_values false s id values = Ok (with_new s id values)
spec_with_values true s id more = check (spec_contains_id s.appendable id) Delta >>= λ is_fresh. spec_joined_values (known_at s.known id) more >>= λ values. Ok (with_delta s id values)

-- the values in the record batch at a position, over the dictionaries nested in them
abbrev pub column_in_batch : StateTree → MessageModel → ℕ → ℕ → ValueTypeModel → Result Layout IpcReadError
column_in_batch s m position left v =
    batch_at m.metadata position left m.root.body_length >>= λ batch. counts_of_arrays (stored_arrays v.values) m position left >>= λ more. only_column_in batch.compression v.values batch.rows m.body (record { rest = batch_rest s.known (spec_outermost_ids s.picked.seen.named v.inside) batch; more = more })

-- the position of the record batch in a dictionary batch, and whether it is a delta
unfoldable pub data_in : Bool → Bool → List ℕ → FlatbufferTable → Result (ℕ × Bool) IpcReadError
data_in once there metadata table = do
  to ← spec_offset_field metadata table 1
  position ← spec_data_position to
  delta ← field (number_at w8 metadata) 0 metadata table 2
  allowed ← spec_check_order once (nat_lt 0 delta) there
  Ok (position, nat_lt 0 delta)

-- the values of a dictionary batch, and whether they are a delta
abbrev pub new_values_in : Bool → StateTree → MessageModel → FlatbufferTable → ℕ → ℤ → ValueTypeModel → Result (Bool × Layout) IpcReadError
new_values_in once s m table left id v = data_in once (is_some (known_at s.known id)) m.metadata table >>= λ at. column_in_batch s m at.0 left v >>= λ values. Ok (at.1, values)

-- the dictionary of a skipped column is skipped
abbrev pub found_values : Bool → StateTree → MessageModel → FlatbufferTable → ℕ → ℤ → Option ValueTypeModel → Result (Option (Bool × Layout)) IpcReadError
found_values once s m table left id None = Ok None
found_values once s m table left id (Some v) = new_values_in once s m table left id v >>= λ new. Ok (Some new)

abbrev pub found_in : Bool → StateTree → MessageModel → FlatbufferTable → ℕ → ℤ → Result (Option (Bool × Layout)) IpcReadError
found_in once s m table left id = named_in s.picked id >>= λ named. found_values once s m table left id named

abbrev pub with_found : StateTree → ℤ → Option (Bool × Layout) → Result StateTree IpcReadError
with_found s id None = Ok s
with_found s id (Some new) = spec_with_values new.0 s id new.1

-- the state after a dictionary batch; with `once` a second one with an id is an error, otherwise it replaces the first
unfoldable pub dictionary_in : Bool → StateTree → MessageModel → Result StateTree IpcReadError
dictionary_in once s m = do
  table ← spec_read_table m.metadata m.root.header m.root.left
  id ← field (signed_at w64 m.metadata) (pos 0) m.metadata table.0 0
  found ← found_in once s m table.0 table.1 id
  with_found s id found

-- ---- streams

-- a message after the schema, by its kind; a second schema is an error
abbrev pub message_by_kind : MessageKind → StateTree → MessageModel → Result (Option RecordBatchTree × StateTree) IpcReadError
message_by_kind Schema s m = Err HeaderType
message_by_kind DictionaryBatch s m = dictionary_in false s m >>= λ known. Ok (None, known)
message_by_kind RecordBatch s m = record_batch_in s m >>= λ batch. Ok (Some batch, s)

unfoldable pub message_in : StateTree → MessageModel → Result (Option RecordBatchTree × StateTree) IpcReadError
message_in s m = spec_check_projected_version m.root.version s.picked.schema.fields s.picked.steps >>= λ allowed. message_by_kind m.root.kind s m

-- a record batch or the end of the stream, the state after it, and the bytes after it
abbrev pub Next : Type 0
Next = Result ((Option RecordBatchTree × StateTree) × List ℕ) IpcReadError

-- the record batch of a message, or the next one after a dictionary batch
abbrev pub or_next : (StateTree → List ℕ → Next) → Option RecordBatchTree → StateTree → List ℕ → Next
or_next others None s behind = others s behind
or_next others (Some batch) s behind = Ok ((Some batch, s), behind)

abbrev pub next_by : (StateTree → List ℕ → Next) → StateTree → Option MessageModel → List ℕ → Next
next_by others s None behind = Ok ((None, s), behind)
next_by others s (Some m) behind = message_in s m >>= λ x. or_next others x.0 x.1 behind

-- in at most this many messages
unfoldable pub next_within : ℕ → StateTree → List ℕ → Next
next_within zero s bytes = Ok ((None, s), bytes)
next_within (suc most) s bytes = message_at bytes >>= λ next. next_by (next_within most) s next.0 next.1

-- the next record batch, or none at the end of the stream; each message has at least one byte
abbrev pub next_in : StateTree → List ℕ → Next
next_in s bytes = next_within (suc (length bytes)) s bytes

-- the same by its first message
abbrev pub first_in : StateTree → List ℕ → Next
first_in s bytes = message_at bytes >>= λ next. next_by next_in s next.0 next.1

-- a record batch and those after it
abbrev pub with_others : (StateTree → List ℕ → Result (List RecordBatchTree × List ℕ) IpcReadError) → Option RecordBatchTree → StateTree → List ℕ → Result (List RecordBatchTree × List ℕ) IpcReadError
with_others others None s behind = Ok ([], behind)
with_others others (Some batch) s behind = others s behind >>= λ x. Ok (batch ∷ x.0, x.1)

-- at most this many record batches
unfoldable pub batches_within : ℕ → StateTree → List ℕ → Result (List RecordBatchTree × List ℕ) IpcReadError
batches_within zero s bytes = Ok ([], bytes)
batches_within (suc most) s bytes = next_in s bytes >>= λ next. with_others (batches_within most) next.0.0 next.0.1 next.1

-- the record batches up to the end of the stream, and the bytes after it
abbrev pub batches_in : StateTree → List ℕ → Result (List RecordBatchTree × List ℕ) IpcReadError
batches_in s bytes = batches_within (suc (length bytes)) s bytes

-- the same by its first batch
abbrev pub first_and_others : StateTree → List ℕ → Result (List RecordBatchTree × List ℕ) IpcReadError
first_and_others s bytes = next_in s bytes >>= λ next. with_others batches_in next.0.0 next.0.1 next.1

-- a stream as a value
pub record StreamTree : Type 0 where
  pub schema : SchemaModel
  pub batches : List RecordBatchTree
  pub read : ℕ

-- the state after a schema: no dictionary was read
abbrev pub start : ProjectedSchemaModel → StateTree
start p = record { picked = p; known = []; appendable = [] }

-- the projected schema and record batches of a stream, and its length in bytes with the end-of-stream marker
unfoldable pub projected_stream_in : ProjectionModel → List ℕ → Result StreamTree IpcReadError
projected_stream_in picks bytes = do
  picked ← stream_projected_schema_at picks bytes
  batches ← batches_in (start picked.0) picked.1
  Ok (record { schema = picked.0.schema; batches = batches.0; read = length bytes - length batches.1 })

-- of all columns
abbrev pub stream_in : List ℕ → Result StreamTree IpcReadError
stream_in bytes = projected_stream_in all bytes

-- ---- the values that the code holds

-- the data types of fields
abbrev pub types_of_fields : List Field → List TypeTree
types_of_fields fields = map field_type (map field_of fields)

abbrev pub record_batch_of : Batch → RecordBatchTree
record_batch_of b = record { rows = b.rows; columns = map layout_of b.columns.items }

abbrev pub known_of : List (ℤ × AnyArray) → Known
known_of entries = map (λ e. (e.0, layout_of e.1)) entries

abbrev pub state_of : declared.DictionaryState → StateTree
state_of s = record { picked = projected_schema_of s.picked; known = known_of s.known.entries; appendable = s.appendable.items }

-- the dictionaries of a state: their values by id, and the appendable ids
abbrev pub known_dictionaries_of : KnownDictionaries → Known × List ℤ
known_dictionaries_of d = (known_of d.known.entries, d.appendable.items)

-- a state with its dictionaries put back as they were, if they were changed
abbrev pub restored : Option KnownDictionaries → StateTree → StateTree
restored None s = s
restored (Some d) s = record { picked = s.picked; known = (known_dictionaries_of d).0; appendable = (known_dictionaries_of d).1 }

-- the error of a delta that cannot be appended
abbrev pub join_error_of : Error → IpcReadError
join_error_of (errors.Memory refused) = Memory
join_error_of e = Delta

abbrev pub stream_of : Stream → StreamTree
stream_of s = record { schema = schema_of s.schema; batches = map record_batch_of s.batches.items; read = s.read }
