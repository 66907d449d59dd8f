-- The metadata of a file's record batches, read without their bodies.
use Rattle.std.specs.Prelude.{◌≡◌, ℕ, ◌&&◌, ◌==◌, List, [], ◌∷◌, map, length, take, drop, get_or, unsigned_abs, Option, Some, Result, Ok, IfOk, refl}
use Rattle.std.specs.Coded.{Coded, code_by, coded×, coded_list}
use Rattle.ipc_flatbuf.specs.ReadResults.{◌>>=◌, check}
use Rattle.ipc_flatbuf.specs.declared.error.IpcReadError.{IpcReadError}
use Rattle.ipc_flatbuf.specs.declared.error.IpcReadError.TheVariants.{Block as BlockError, HeaderType}
use Rattle.ipc_flatbuf.specs.Batches.{batch_at}
use Rattle.ipc_flatbuf.specs.MessageBytes.{header_tag}
use Rattle.ipc_flatbuf.specs.Messages.{root_at, spec_first_bytes}
use Rattle.ipc_flatbuf.specs.declared.message.types.MessageKind.TheVariants.{RecordBatch}
use Rattle.ipc_schema.specs.Projections.{ProjectionModel}
use Rattle.ipc_schema.specs.ProjectedFooters.{projected_footer_in}
use Rattle.ipc_schema.specs.Schemas.{SchemaModel}
use Rattle.ipc_schema.specs.declared.footer.types.Block.{Block}
use Rattle.ipc.specs.Files.{FileTree, coded_block, no_block}
use Rattle.ipc.specs.SliceStreamReaders.{coded_schema}
use Rattle.ipc_io.specs.Fetched.{metadata_length_at}
use Rattle.ipc_io.specs.FileReaders.{DecodesAs}
use Rattle.ipc_io.specs.Seeks.{KeepsBytes, bytes_of}
use Rattle.ipc_io.specs.declared.error.ReadError.{ReadError}

-- the metadata of the message at the start of the bytes, and the bytes after it
unfoldable pub metadata_at : List ℕ → Result (List ℕ × List ℕ) IpcReadError
metadata_at bytes = metadata_length_at bytes >>= λ size. spec_first_bytes size.0 size.1

-- the number of rows in the metadata of a record batch, which fills its block up to the body
unfoldable pub rows_in_metadata : Block → List ℕ → List ℕ → Result ℕ IpcReadError
rows_in_metadata b metadata behind = do
  root ← root_at metadata
  fills ← check (length behind == 0 && root.body_length == unsigned_abs b.body_length) BlockError
  kind ← check (header_tag root.kind == header_tag RecordBatch) HeaderType
  batch ← batch_at metadata root.header root.left root.body_length
  Ok batch.rows

-- the number of rows of the record batch of a block, from the bytes before the body
abbrev pub rows_in_front : Block → List ℕ → Result ℕ IpcReadError
rows_in_front b front = metadata_at front >>= λ x. rows_in_metadata b x.0 x.1

-- the bytes of a block before the body
abbrev pub block_front : List ℕ → Block → List ℕ
block_front bytes b = take (unsigned_abs b.metadata_length) (drop (unsigned_abs b.offset) bytes)

abbrev pub block_rows_in : List ℕ → Block → Result ℕ IpcReadError
block_rows_in bytes b = rows_in_front b (block_front bytes b)

-- the numbers of rows of the record batches of blocks in order
unfoldable pub row_counts_at : List ℕ → List Block → Result (List ℕ) IpcReadError
row_counts_at bytes [] = Ok []
row_counts_at bytes (b ∷ bs) = do
  rows ← block_rows_in bytes b
  others ← row_counts_at bytes bs
  Ok (rows ∷ others)

-- the schema in the footer of a file, and the blocks of its record batches
abbrev pub file_metadata_in : ProjectionModel → List ℕ → Result (SchemaModel × List Block) IpcReadError
file_metadata_in picks bytes = projected_footer_in picks bytes >>= λ f. Ok (f.picked.schema, f.batches)

-- a file by its metadata: the schema, and the numbers of rows of the record batches
abbrev pub row_counts_in : ProjectionModel → List ℕ → Result (SchemaModel × List ℕ) IpcReadError
row_counts_in picks bytes = file_metadata_in picks bytes >>= λ m. row_counts_at bytes m.1 >>= λ counts. Ok (m.0, counts)

-- the schema of a file that was decoded, and the numbers of rows of its record batches
abbrev pub row_counts_of : FileTree → SchemaModel × List ℕ
row_counts_of f = (f.schema, map (λ b. b.rows) f.batches)

-- ---- readers

-- a reader of metadata: the inner reader, the schema, and the blocks of the record batches
pub record MetadataReaderTree (R : Type 0) : Type 0 where
  pub inner : R
  pub schema : SchemaModel
  pub blocks : List Block

abbrev pub coded_metadata_reader : {R : Type 0} → Coded R → Coded (MetadataReaderTree R)
coded_metadata_reader {R = R} reader =
    code_by (R × (SchemaModel × List Block)) (coded× reader (coded× coded_schema (coded_list coded_block))) (λ r. (r.inner, (r.schema, r.blocks))) (λ p. record { inner = p.0; schema = p.1.0; blocks = p.1.1 }) (λ _. refl)

abbrev pub metadata_of : {R : Type 0} → List ℕ → MetadataReaderTree R → SchemaModel × List Block
metadata_of bytes r = (r.schema, r.blocks)

module _ {R : Type 0} (position : R → Option ℕ) (bytes : R → Option (List ℕ)) where
  -- `with_projection` returns the schema and the blocks that the bytes decode to, or their error; no byte changes
  abbrev pub OpensMetadata : ProjectionModel → R → Result (MetadataReaderTree R) ReadError → Type 0
  OpensMetadata picks reader result = DecodesAs metadata_of (file_metadata_in picks) (bytes_of position bytes reader) result × IfOk result (λ r. KeepsBytes position bytes reader r.inner)

  -- `row_count` returns the number of rows of the record batch at an index, or the error of its metadata
  abbrev pub CountsRows : ℕ → MetadataReaderTree R → Result ℕ ReadError → Type 0
  CountsRows i r result = DecodesAs (λ xs rows. rows) (λ xs. block_rows_in xs (get_or r.blocks i no_block)) (bytes_of position bytes r.inner) result

  -- a reader is unchanged, except for the position of the inner reader
  abbrev pub IsMetadataUnchanged : MetadataReaderTree R → MetadataReaderTree R → Type 0
  IsMetadataUnchanged old new = (new.schema ≡ old.schema) × (new.blocks ≡ old.blocks) × KeepsBytes position bytes old.inner new.inner
