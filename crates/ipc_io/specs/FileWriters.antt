-- Writers of files over `Write`: a stream after the magic bytes, and the footer after its end-of-stream marker.
use Rattle.std.specs.Prelude.{◌≡◌, ℕ, ◌+◌, ◌<◌, ◌^◌, nat_le, pos, ⊤, List, [], ◌∷◌, ◌++◌, length, map, unsigned_abs, Option, Result, Ok, Err, refl}
use Rattle.std.specs.Coded.{Coded, code_by, coded×, coded_list, coded_ℕ}
use Rattle.nest_memory.specs.TypeTree.{TypeTree}
use Rattle.ipc_flatbuf.specs.declared.error.IpcWriteError as write_errors
use Rattle.ipc_flatbuf.specs.MessageBytes.{end_of_stream}
use Rattle.ipc_schema.specs.WriteChecks.{check_fields}
use Rattle.ipc_schema.specs.Schemas.{SchemaModel}
use Rattle.ipc_schema.specs.SchemaBytes.{schema_message}
use Rattle.ipc_schema.specs.declared.footer.types.Block.{Block}
use Rattle.ipc_schema.specs.Footers.{FooterModel}
use Rattle.ipc_schema.specs.FooterBytes.{file_head, file_end}
use Rattle.ipc.specs.DictionaryEntries.{DictionaryEntries}
use Rattle.ipc.specs.SliceStreamReaders.{coded_state}
use Rattle.ipc.specs.Streams.{RecordBatchTree, StateTree, column_types}
use Rattle.ipc.specs.EncodedStreams.{emitted_after, encoded_batch, or_error, error_of, size_error_if}
use Rattle.ipc.specs.Files.{coded_block}
use Rattle.ipc.specs.EncodedFiles.{Blocks, FileState, file_state, file_dictionary_batches, written_block, dictionary_blocks, batch_offset, file_batch_error, footer_error}
use Rattle.ipc_io.specs.declared.error.WriteError as errors
use Rattle.ipc_io.specs.declared.error.WriteError.TheVariants.{Ipc, Io, Failed}
use Rattle.ipc_io.specs.Writers.{WriterTree, WritesBytes, coded_writer}

-- a writer of a file: the writer of its stream, the blocks written, the position of the next byte in the file, and the state of a reader there
pub record FileWriterTree (W : Type 0) : Type 0 where
  pub stream : WriterTree W
  pub blocks : Blocks
  pub position : ℕ
  pub known : StateTree

abbrev coded_blocks : Coded Blocks
coded_blocks = code_by (List Block × List Block) (coded× (coded_list coded_block) (coded_list coded_block)) (λ b. (b.dictionaries, b.batches)) (λ p. record { dictionaries = p.0; batches = p.1 }) (λ _. refl)

abbrev pub coded_file_writer : {W : Type 0} → Coded W → Coded (FileWriterTree W)
coded_file_writer {W = W} writer =
    code_by (WriterTree W × (Blocks × (ℕ × StateTree))) (coded× (coded_writer writer) (coded× coded_blocks (coded× coded_ℕ coded_state))) (λ w. (w.stream, (w.blocks, (w.position, w.known))))
    (λ p. record { stream = p.0; blocks = p.1.0; position = p.1.1.0; known = p.1.1.1 }) (λ _. refl)

-- the dictionaries emitted last, and the state of a reader
abbrev pub file_state_so_far : {W : Type 0} → FileWriterTree W → FileState
file_state_so_far w = file_state w.stream.emitted w.known

-- ---- bytes

-- the bytes before the batches: the magic bytes and padding, the schema message
abbrev pub header_bytes : SchemaModel → List ℕ
header_bytes s = file_head ++ schema_message s

-- the footer of a schema and these blocks
abbrev pub footer_over : SchemaModel → Blocks → FooterModel
footer_over s blocks = record { schema = s; dictionaries = blocks.dictionaries; batches = blocks.batches }

-- the footer of what was written
abbrev pub footer_of : {W : Type 0} → FileWriterTree W → FooterModel
footer_of w = footer_over w.stream.schema w.blocks

-- the bytes after the batches: the end-of-stream marker, the footer with its length and the magic bytes
abbrev pub trailer_bytes : FooterModel → List ℕ
trailer_bytes f = end_of_stream ++ file_end f

-- ---- blocks

-- the blocks of a record batch and its dictionary batches, which begin at a position
abbrev pub batch_blocks : ℕ → DictionaryEntries → RecordBatchTree → Blocks
batch_blocks position emitted b = record { dictionaries = dictionary_blocks position (file_dictionary_batches emitted b); batches = written_block (batch_offset position emitted b) b ∷ [] }

-- a block with this added to its offset
abbrev pub shifted_block : ℕ → Block → Block
shifted_block position b = record { offset = pos (position + unsigned_abs b.offset); metadata_length = b.metadata_length; body_length = b.body_length }

abbrev pub shifted_blocks : ℕ → Blocks → Blocks
shifted_blocks position blocks = record { dictionaries = map (shifted_block position) blocks.dictionaries; batches = map (shifted_block position) blocks.batches }

-- its offset stays below 2^63 then
abbrev pub IsShiftable : ℕ → Block → Type 0
IsShiftable position b = position + unsigned_abs b.offset < 2 ^ 63

-- these blocks after others
abbrev pub joined_blocks : Blocks → Blocks → Blocks
joined_blocks old more = record { dictionaries = old.dictionaries ++ more.dictionaries; batches = old.batches ++ more.batches }

-- ---- the first error

-- of a record batch that begins at a position: as of a file in memory, or its end would be at 2^63 or more
abbrev pub placed_error : ℕ → List TypeTree → FileState → RecordBatchTree → Option write_errors.IpcWriteError
placed_error position types f b = or_error (file_batch_error types f b) (size_error_if (nat_le (2 ^ 63) (position + length (encoded_batch file_dictionary_batches f.emitted b))))

-- of the end: of a field of the schema, or the footer exceeds 2^31 - 1 bytes
abbrev pub trailer_error : FooterModel → Option write_errors.IpcWriteError
trailer_error f = or_error (error_of (check_fields f.schema.fields)) (footer_error f)

-- ---- what calls leave

-- a writer of a file as the writer of its stream
abbrev pub as_stream : {W : Type 0} → Result (FileWriterTree W) errors.WriteError → Result (WriterTree W) errors.WriteError
as_stream (Ok w) = Ok w.stream
as_stream (Err e) = Err e

-- the blocks of what was written are recorded, and the position moves by its length; after an error both are unchanged
abbrev pub RecordsBlocks : {W : Type 0} → Blocks → ℕ → FileWriterTree W → FileWriterTree W → Result ⊤ errors.WriteError → Type 0
RecordsBlocks blocks long old new (Ok done) = (new.blocks ≡ joined_blocks old.blocks blocks) × (new.position ≡ old.position + long)
RecordsBlocks blocks long old new (Err e) = (new.blocks ≡ old.blocks) × (new.position ≡ old.position)

-- the state of a reader is this; it is unchanged where nothing was written
abbrev pub RecordsState : {W : Type 0} → StateTree → FileWriterTree W → FileWriterTree W → Result ⊤ errors.WriteError → Type 0
RecordsState state old new (Ok done) = new.known ≡ state
RecordsState state old new (Err (Ipc why)) = new.known ≡ old.known
RecordsState state old new (Err (Io e)) = new.known.picked ≡ old.known.picked
RecordsState state old new (Err Failed) = new.known ≡ old.known

-- the state of a reader is the one now; where nothing was written it is the one before
abbrev pub KeepsOrUndoes : StateTree → StateTree → StateTree → Result ⊤ errors.WriteError → Type 0
KeepsOrUndoes before now new (Ok done) = new ≡ now
KeepsOrUndoes before now new (Err (Ipc why)) = new ≡ before
KeepsOrUndoes before now new (Err (Io e)) = new ≡ now
KeepsOrUndoes before now new (Err Failed) = ⊥

-- the blocks of a record batch and of its dictionary batches are recorded
abbrev pub RecordsBatchBlocks : {W : Type 0} → RecordBatchTree → FileWriterTree W → FileWriterTree W → Result ⊤ errors.WriteError → Type 0
RecordsBatchBlocks b old new result = RecordsBlocks (batch_blocks old.position old.stream.emitted b) (length (encoded_batch file_dictionary_batches old.stream.emitted b)) old new result

-- what `write` leaves: the dictionary batches and the record batch are written, unless the batch has an error
abbrev pub WritesFileRecordBatch : {W : Type 0} → (W → Option (List ℕ)) → RecordBatchTree → FileWriterTree W → FileWriterTree W → Result ⊤ errors.WriteError → Type 0
WritesFileRecordBatch contents b old new result =
    WritesBytes contents (placed_error old.position (column_types old.stream.schema) (file_state_so_far old) b) (encoded_batch file_dictionary_batches old.stream.emitted b)
    (emitted_after old.stream.emitted b) old.stream new.stream result
