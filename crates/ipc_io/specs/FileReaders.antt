-- A reader of a file over `Read` and `Seek`, which returns record batches in any order.
use Rattle.std.specs.Prelude.{◌≡◌, ℕ, ⊤, List, Option, None, Some, Result, Ok, Err, IfOk, refl}
use Rattle.std.specs.Coded.{Coded, code_by, coded×, coded_list}
use Rattle.ipc_flatbuf.specs.ReadResults.{◌>>=◌, FailsOrRunsOut}
use Rattle.ipc_flatbuf.specs.declared.error.IpcReadError as read_errors
use Rattle.ipc_schema.specs.Projections.{ProjectionModel}
use Rattle.ipc_schema.specs.declared.footer.types.Block.{Block}
use Rattle.ipc_schema.specs.Footers.{footer_position}
use Rattle.ipc_schema.specs.FooterParts.{length_of_footer}
use Rattle.ipc_schema.specs.ProjectedFooters.{ProjectedFooterModel, projected_footer_of}
use Rattle.ipc_schema.specs.declared.footer.types.ProjectedFooter.{ProjectedFooter}
use Rattle.ipc.specs.declared.batch.Batch.{Batch}
use Rattle.ipc.specs.Streams.{RecordBatchTree, StateTree, record_batch_of}
use Rattle.ipc.specs.SliceStreamReaders.{coded_state}
use Rattle.ipc.specs.Files.{SliceFileReaderTree, coded_block, file_reader_in, dictionaries_at, batch_of_file}
use Rattle.ipc_io.specs.declared.error.ReadError.{ReadError}
use Rattle.ipc_io.specs.declared.error.ReadError.TheVariants.{Ipc, Io}
use Rattle.ipc_io.specs.Seeks.{KeepsBytes}
pub use Rattle.ipc_io.specs.Seeks.{bytes_of}

-- Where the bytes of a reader are known, a result is what they decode to, seen by view, or their first error. An I/O error, or the error of an allocation, may be
-- returned instead.
abbrev pub DecodesAs : {X Y : Type 0} → (List ℕ → X → Y) → (List ℕ → Result Y read_errors.IpcReadError) → Option (List ℕ) → Result X ReadError → Type 0
DecodesAs view read None result = Unit {0}
DecodesAs view read (Some bytes) (Ok x) = read bytes ≡ Ok (view bytes x)
DecodesAs view read (Some bytes) (Err (Ipc error)) = FailsOrRunsOut error (read bytes)
DecodesAs view read (Some bytes) (Err (Io e)) = Unit {0}

-- a reader of a file: the inner reader, the state after all dictionaries, and the blocks of the record batches
pub record FileReaderTree (R : Type 0) : Type 0 where
  pub inner : R
  pub state : StateTree
  pub blocks : List Block

abbrev pub coded_io_file_reader : {R : Type 0} → Coded R → Coded (FileReaderTree R)
coded_io_file_reader {R = R} reader =
    code_by (R × (StateTree × List Block)) (coded× reader (coded× coded_state (coded_list coded_block))) (λ r. (r.inner, (r.state, r.blocks))) (λ p. record { inner = p.0; state = p.1.0; blocks = p.1.1 }) (λ _. refl)

-- the position of the footer of a file, and its length
abbrev pub footer_span : List ℕ → Result (ℕ × ℕ) read_errors.IpcReadError
footer_span bytes = length_of_footer bytes >>= λ long. Ok (footer_position long bytes, long)

-- views of what was read: a span as it is, a footer, a record batch
abbrev pub as_span : List ℕ → ℕ × ℕ → ℕ × ℕ
as_span bytes span = span

abbrev pub as_footer : List ℕ → ProjectedFooter → ProjectedFooterModel
as_footer bytes f = projected_footer_of f

abbrev pub as_batch : List ℕ → Batch → RecordBatchTree
as_batch bytes batch = record_batch_of batch

-- the reader of these bytes in memory, of a state and blocks
abbrev pub slice_reader : List ℕ → StateTree → List Block → SliceFileReaderTree
slice_reader bytes state blocks = record { state = state; bytes = bytes; blocks = blocks }

-- a reader as one of these bytes in memory
abbrev pub of_bytes : {R : Type 0} → List ℕ → FileReaderTree R → SliceFileReaderTree
of_bytes bytes r = record { state = r.state; bytes = bytes; blocks = r.blocks }

module _ {R : Type 0} (position : R → Option ℕ) (bytes : R → Option (List ℕ)) where
  -- `new` returns the reader that the bytes decode to, or their error; no byte changes
  abbrev pub OpensFile : ProjectionModel → R → Result (FileReaderTree R) ReadError → Type 0
  OpensFile picks reader result = DecodesAs of_bytes (file_reader_in picks) (bytes_of position bytes reader) result × IfOk result (λ r. KeepsBytes position bytes reader r.inner)

  -- `batch` returns the record batch at an index of the reader of those bytes, or its error
  abbrev pub ReadsBatch : ℕ → FileReaderTree R → Result Batch ReadError → Type 0
  ReadsBatch i r result = DecodesAs as_batch (λ xs. batch_of_file (of_bytes xs r) i) (bytes_of position bytes r.inner) result

  -- a reader is unchanged, except for the position of the inner reader
  abbrev pub IsUnchanged : FileReaderTree R → FileReaderTree R → Type 0
  IsUnchanged old new = (new.state ≡ old.state) × (new.blocks ≡ old.blocks) × KeepsBytes position bytes old.inner new.inner

  -- the dictionary batches of these blocks are read into a state
  abbrev pub ReadsDictionaries : StateTree → List Block → R → StateTree → Result ⊤ ReadError → Type 0
  ReadsDictionaries old blocks reader new result = DecodesAs (λ xs done. new) (λ xs. dictionaries_at old xs blocks) (bytes_of position bytes reader) result
