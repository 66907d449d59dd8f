-- A reader of a stream returns the record batches of the stream in its bytes.
use Rattle.std.specs.Prelude.{◌≡◌, ℕ, List, [], ◌∷◌, Option, None, Some, Result, Ok, Err, refl}
use Rattle.std.proofs.Common.{ap, ◌∙◌, subst}
use Rattle.ipc_flatbuf.specs.ReadResults.{◌>>=◌}
use Rattle.ipc_flatbuf.specs.declared.error.IpcReadError as read_errors
use Rattle.ipc_flatbuf.specs.declared.error.IpcReadError.TheVariants.{Memory}
use Rattle.ipc_schema.specs.Projections.{ProjectionModel}
use Rattle.ipc.specs.declared.batch.Batch.{Batch}
use Rattle.ipc.specs.Streams.{RecordBatchTree, record_batch_of}
use Rattle.ipc.specs.SliceStreamReaders.{SliceStreamReaderTree, reader_in, next_of, before, batches_of, batches_of_stream}
use Rattle.ipc.specs.ReaderLaws.{reader_step, reader_goes_through}
use Rattle.ipc_io.specs.declared.error.ReadError.{ReadError}
use Rattle.ipc_io.specs.declared.error.ReadError.TheVariants.{Ipc}
use Rattle.ipc_io.specs.StreamReaders.{StreamReaderTree, DecodesReader, DecodesNext, FailsNext, as_slice_reader, Opens, ReadsNext}

opened : (picks : ProjectionModel) (bytes : List ℕ) (r : Option SliceStreamReaderTree) → DecodesReader picks (Some bytes) r → (t : SliceStreamReaderTree) × (r ≡ Some t) × (reader_in picks bytes ≡ Ok t)
opened picks bytes None h = absurd h
opened picks bytes (Some t) h = (t, refl, h)

next_is : (t : SliceStreamReaderTree) (r : Option SliceStreamReaderTree) (next : Option RecordBatchTree) → DecodesNext (Some t) r next → (u : SliceStreamReaderTree) × (r ≡ Some u) × (next_of t ≡ Ok (next, u))
next_is t None next h = absurd h
next_is t (Some u) next h = (u, refl, h)

step : (t u : SliceStreamReaderTree) (next : Option RecordBatchTree) → next_of t ≡ Ok (next, u) → batches_of t ≡ before next (batches_of u)
step t u next is = reader_step t ∙ ap (λ (x : Result (Option RecordBatchTree × SliceStreamReaderTree) read_errors.IpcReadError). x >>= λ y. before y.0 (batches_of y.1)) is

failed : (t : SliceStreamReaderTree) (error : read_errors.IpcReadError) → next_of t ≡ Err error → batches_of t ≡ Err error
failed t error is = reader_step t ∙ ap (λ (x : Result (Option RecordBatchTree × SliceStreamReaderTree) read_errors.IpcReadError). x >>= λ y. before y.0 (batches_of y.1)) is

module _ {R : Type 0} (remaining : R → Option (List ℕ)) where
  -- these record batches were read in order, and then this was returned
  abbrev pub ReadsBatches : List RecordBatchTree → Result (Option Batch) ReadError → StreamReaderTree R → StreamReaderTree R → Type 0
  ReadsBatches [] answer old new = ReadsNext remaining old new answer
  ReadsBatches (b ∷ bs) answer old new = (batch : Batch) × (next : StreamReaderTree R) × (record_batch_of batch ≡ b) × ReadsNext remaining old next (Ok (Some batch)) × ReadsBatches bs answer next new

  -- the record batches depend on what follows the first of them
  one_more : (b : RecordBatchTree) (bs : List RecordBatchTree) (answer : Result (Option Batch) ReadError) (old new : StreamReaderTree R) (t : SliceStreamReaderTree) (others : Result (List RecordBatchTree) read_errors.IpcReadError) → as_slice_reader remaining old ≡ Some t → ReadsBatches (b ∷ bs) answer old new
      → ((next : StreamReaderTree R) (u : SliceStreamReaderTree) → as_slice_reader remaining next ≡ Some u → ReadsBatches bs answer next new → batches_of u ≡ others) → batches_of t ≡ before (Some b) others
  one_more b bs answer old new t others e (batch, next, is, goes, rest) behind =
      let one = next_is t (as_slice_reader remaining next) (Some (record_batch_of batch)) (subst (λ (x : Option SliceStreamReaderTree). DecodesNext x (as_slice_reader remaining next) (Some (record_batch_of batch))) e goes.0) in
      step t one.0 (Some (record_batch_of batch)) one.2
      ∙ ap (before (Some (record_batch_of batch))) (behind next one.0 one.1 rest)
      ∙ ap (λ (x : RecordBatchTree). before (Some x) others) is

  reads_are : (bs : List RecordBatchTree) (old new : StreamReaderTree R) (t : SliceStreamReaderTree) → as_slice_reader remaining old ≡ Some t → ReadsBatches bs (Ok None) old new → batches_of t ≡ Ok bs
  reads_are [] old new t e reads =
      let one = next_is t (as_slice_reader remaining new) None (subst (λ (x : Option SliceStreamReaderTree). DecodesNext x (as_slice_reader remaining new) None) e reads.0) in
      step t one.0 None one.2
  reads_are (b ∷ bs) old new t e reads = one_more b bs (Ok None) old new t (Ok bs) e reads (λ next u is rest. reads_are bs next new u is rest)

  reads_fail : (bs : List RecordBatchTree) (error : read_errors.IpcReadError) (old new : StreamReaderTree R) (t : SliceStreamReaderTree) → (error ≡ Memory → ⊥) → as_slice_reader remaining old ≡ Some t → ReadsBatches bs (Err (Ipc error)) old new → batches_of t ≡ Err error
  reads_fail [] error old new t known e reads = failed t error ((subst (λ (x : Option SliceStreamReaderTree). FailsNext error x) e reads.0) known)
  reads_fail (b ∷ bs) error old new t known e reads = one_more b bs (Err (Ipc error)) old new t (Err error) e reads (λ next u is rest. reads_fail bs error next new u known is rest)

  stream_is : (picks : ProjectionModel) (bytes : List ℕ) (read : Result (List RecordBatchTree) read_errors.IpcReadError) (reader : R) (first : StreamReaderTree R) → remaining reader ≡ Some bytes → Opens remaining picks reader (Ok first) → ((t : SliceStreamReaderTree) → as_slice_reader remaining first ≡ Some t → batches_of t ≡ read) → batches_of_stream picks bytes ≡ read
  stream_is picks bytes read reader first known opens all =
      let one = opened picks bytes (as_slice_reader remaining first) (subst (λ (x : Option (List ℕ)). DecodesReader picks x (as_slice_reader remaining first)) known opens) in
      reader_goes_through picks bytes
      ∙ ap (λ (x : Result SliceStreamReaderTree read_errors.IpcReadError). x >>= batches_of) one.2
      ∙ all one.0 one.1

  -- all record batches of known bytes are returned in order
  abbrev pub ReadsStream : Type 0
  ReadsStream = (picks : ProjectionModel) (bytes : List ℕ) (bs : List RecordBatchTree) (reader : R) (first last : StreamReaderTree R) → remaining reader ≡ Some bytes → Opens remaining picks reader (Ok first) → ReadsBatches bs (Ok None) first last → batches_of_stream picks bytes ≡ Ok bs

  pub all_come : ReadsStream
  all_come picks bytes bs reader first last known opens reads = stream_is picks bytes (Ok bs) reader first known opens (λ t is. reads_are bs first last t is reads)

  -- or their error
  abbrev pub ReadsStreamError : Type 0
  ReadsStreamError = (picks : ProjectionModel) (bytes : List ℕ) (bs : List RecordBatchTree) (error : read_errors.IpcReadError) (reader : R) (first last : StreamReaderTree R) → (error ≡ Memory → ⊥) → remaining reader ≡ Some bytes → Opens remaining picks reader (Ok first) → ReadsBatches bs (Err (Ipc error)) first last → batches_of_stream picks bytes ≡ Err error

  pub fault_comes : ReadsStreamError
  fault_comes picks bytes bs error reader first last real known opens reads = stream_is picks bytes (Err error) reader first known opens (λ t is. reads_fail bs error first last t real is reads)
