-- What a stream writer has written and a stream reader has read, one record batch at a time.
use Rattle.std.proofs.Common.{◌≡◌, ℕ, zero, suc, ◌+◌, ◌-◌, ◌<◌, ◌≤◌, List, [], ◌∷◌, ◌++◌, Option, None, Some, Result, Ok, Err, IfOk, OnOk, length, map, refl, ap, sym, ◌∙◌, subst, append_assoc, arith}
use Rattle.std.proofs.lemmas.List.{append-nil, map-append}
use Rattle.std.specs.Global.{Vec}
use Rattle.std.specs.Io.KnownBytes.{Appends}
use Rattle.std.specs.declared.io.Error.{Error}
use Rattle.ipc_flatbuf.specs.ReadResults.{◌>>=◌, FailsOrRunsOut}
use Rattle.ipc_flatbuf.specs.declared.error.IpcReadError.{IpcReadError}
use Rattle.ipc_flatbuf.specs.MessageBytes.{end_of_stream}
use Rattle.ipc_schema.specs.Projections.{all}
use Rattle.ipc_schema.specs.SchemaBytes.{schema_message}
use Rattle.ipc_schema.specs.Schemas.{SchemaModel}
use Rattle.ipc.specs.declared.batch.Batch.{Batch}
use Rattle.ipc.specs.SliceStreamReaders.{SliceStreamReaderTree, before}
use Rattle.ipc.specs.Streams.{RecordBatchTree, record_batch_of, stream_in}
use Rattle.ipc.specs.EncodedStreams.{schema_error, decoded_stream, encoded_stream}
use Rattle.ipc_io.specs.declared.error.ReadError.{ReadError}
use Rattle.ipc_io.specs.declared.error.ReadError.TheVariants as errors
use Rattle.ipc_io.specs.declared.error.WriteError.{WriteError}
use Rattle.ipc_io.specs.StreamReaders.{StreamReaderTree, FailsNext, FailsReader, ReadsNext, Opens, DecodesNext, DecodesReader, as_slice_reader}
use Rattle.ipc_io.specs.WriterLaws.{IsFinished, WritesBatches, WritesBatch, stream_put, stream_read}
use Rattle.ipc_io.specs.Writers.{WriterTree, StartsWriting, FinishesWriting, SchemaRoundTrips}
use Rattle.guide.specs.Orders.{FirstOf, first_in, first_of}

-- ---- writing

module _ {W : Type 0} (contents : W → Option (List ℕ)) where
  pub writes_push : (bs : List RecordBatchTree) (b : RecordBatchTree) (old mid new : WriterTree W) → WritesBatches contents bs old mid → WritesBatch contents b mid new → WritesBatches contents (bs ++ b ∷ []) old new
  writes_push [] b old mid new is one = (new, subst (λ (w : WriterTree W). WritesBatch contents b w new) is one, refl)
  writes_push (c ∷ bs) b old mid new (next, first, wrote) one = (next, first, writes_push bs b next mid new wrote one)

  -- the calls that write a stream; none returns an error
  finished : (s : SchemaModel) (bs : List RecordBatchTree) (start end : W) (first last : WriterTree W) → StartsWriting contents (schema_error s) (schema_message s) s start (Ok first) → SchemaRoundTrips s → WritesBatches contents bs first last → FinishesWriting contents None end_of_stream last (Ok end) → IsFinished contents s bs start end
  finished s bs start end first last begun again written ended = record { first = first; last = last; begun = begun; again = again; written = written; ended = ended }

  pub all_put : (s : SchemaModel) (bs : List RecordBatchTree) (start : W) (first last : WriterTree W) (result : Result W WriteError) → StartsWriting contents (schema_error s) (schema_message s) s start (Ok first) → SchemaRoundTrips s → WritesBatches contents bs first last → FinishesWriting contents None end_of_stream last result → IfOk result (λ end. Appends (contents start) (contents end) (encoded_stream s bs))
  all_put s bs start first last (Ok end) begun again written ended = stream_put contents s bs start end (finished s bs start end first last begun again written ended)
  all_put s bs start first last (Err e) begun again written ended = tt

  pub all_again : (s : SchemaModel) (bs : List RecordBatchTree) (start : W) (first last : WriterTree W) (result : Result W WriteError) → StartsWriting contents (schema_error s) (schema_message s) s start (Ok first) → SchemaRoundTrips s → WritesBatches contents bs first last → FinishesWriting contents None end_of_stream last result → OnOk result ((rest : List ℕ) → stream_in (encoded_stream s bs ++ rest) ≡ Ok (decoded_stream s bs (length (encoded_stream s bs))))
  all_again s bs start first last (Ok end) begun again written ended = stream_read contents s bs start end (finished s bs start end first last begun again written ended)
  all_again s bs start first last (Err e) begun again written ended = tt

-- ---- reading

abbrev Batches : Type 0
Batches = Result (List RecordBatchTree) IpcReadError

abbrev pub with_first : List RecordBatchTree → Batches → Batches
with_first done read = read >>= λ bs. Ok (done ++ bs)

with_none : (read : Batches) → read ≡ with_first [] read
with_none (Ok bs) = refl
with_none (Err error) = refl

with_more : (done : List RecordBatchTree) (b : RecordBatchTree) (read : Batches) → with_first done (before (Some b) read) ≡ with_first (done ++ b ∷ []) read
with_more done b (Ok bs) = ap (λ (x : List RecordBatchTree). Ok x) (sym (append_assoc done (b ∷ []) bs))
with_more done b (Err error) = refl

-- the batches read so far, and those that the reader has left, are the first of the bytes, where they are known
abbrev pub IsUnderWay : ℕ → ℕ → List RecordBatchTree → Option (List ℕ) → Option SliceStreamReaderTree → Type 0
IsUnderWay most left done None r = Unit {0}
IsUnderWay most left done (Some bytes) None = ⊥
IsUnderWay most left done (Some bytes) (Some r) = first_in most bytes ≡ with_first done (first_of left r)

-- all batches are read, or an error ends the reading
abbrev pub Ended : ℕ → List RecordBatchTree → Option (List ℕ) → Type 0
Ended most done None = Unit {0}
Ended most done (Some bytes) = first_in most bytes ≡ Ok done

abbrev pub Failed : ℕ → IpcReadError → Option (List ℕ) → Type 0
Failed most error None = Unit {0}
Failed most error (Some bytes) = FailsOrRunsOut error (first_in most bytes)

pub opened : (most : ℕ) (bytes : Option (List ℕ)) (r : Option SliceStreamReaderTree) → DecodesReader all bytes r → IsUnderWay most most [] bytes r
opened most None r h = tt
opened most (Some bytes) None h = absurd h
opened most (Some bytes) (Some r) h = ap (λ (x : Result SliceStreamReaderTree IpcReadError). x >>= first_of most) h ∙ with_none (first_of most r)

pub unopened : (most : ℕ) (bytes : Option (List ℕ)) (error : IpcReadError) → FailsReader all error bytes → Failed most error bytes
unopened most None error h = tt
unopened most (Some bytes) error h = λ real. ap (λ (x : Result SliceStreamReaderTree IpcReadError). x >>= first_of most) (h real)

abbrev after : ℕ → Result (Option RecordBatchTree × SliceStreamReaderTree) IpcReadError → Batches
after left next = next >>= λ next. before next.0 (first_of left next.1)

pub one_more : (most left : ℕ) (done : List RecordBatchTree) (b : RecordBatchTree) (bytes : Option (List ℕ)) (old new : Option SliceStreamReaderTree) → DecodesNext old new (Some b) → IsUnderWay most (suc left) done bytes old → IsUnderWay most left (done ++ b ∷ []) bytes new
one_more most left done b None old new h way = tt
one_more most left done b (Some bytes) None new h way = absurd way
one_more most left done b (Some bytes) (Some old) None h way = absurd h
one_more most left done b (Some bytes) (Some old) (Some new) h way = way ∙ ap (λ (x : Result (Option RecordBatchTree × SliceStreamReaderTree) IpcReadError). with_first done (after left x)) h ∙ with_more done b (first_of left new)

pub no_more : (most left : ℕ) (done : List RecordBatchTree) (bytes : Option (List ℕ)) (old new : Option SliceStreamReaderTree) → DecodesNext old new None → IsUnderWay most (suc left) done bytes old → Ended most done bytes
no_more most left done None old new h way = tt
no_more most left done (Some bytes) None new h way = absurd way
no_more most left done (Some bytes) (Some old) None h way = absurd h
no_more most left done (Some bytes) (Some old) (Some new) h way = way ∙ ap (λ (x : Result (Option RecordBatchTree × SliceStreamReaderTree) IpcReadError). with_first done (after left x)) h ∙ ap (λ (x : List RecordBatchTree). Ok x) (append-nil done)

pub enough : (most : ℕ) (done : List RecordBatchTree) (bytes : Option (List ℕ)) (r : Option SliceStreamReaderTree) → IsUnderWay most zero done bytes r → Ended most done bytes
enough most done None r way = tt
enough most done (Some bytes) None way = absurd way
enough most done (Some bytes) (Some r) way = way ∙ ap (λ (x : List RecordBatchTree). Ok x) (append-nil done)

pub failed : (most left : ℕ) (done : List RecordBatchTree) (error : IpcReadError) (bytes : Option (List ℕ)) (old : Option SliceStreamReaderTree) → FailsNext error old → IsUnderWay most (suc left) done bytes old → Failed most error bytes
failed most left done error None old h way = tt
failed most left done error (Some bytes) None h way = absurd way
failed most left done error (Some bytes) (Some old) h way = λ real. way ∙ ap (λ (x : Result (Option RecordBatchTree × SliceStreamReaderTree) IpcReadError). with_first done (after left x)) (h real)

-- one turn of the loop
pub one_left : (most i : ℕ) → i < most → most - i ≡ suc (most - (i + 1))
one_left most i lt = omega arith

pub is_read : (most : ℕ) (bytes : Option (List ℕ)) (batches : Vec Batch) → Ended most (map record_batch_of batches.items) bytes → FirstOf most bytes (Ok batches)
is_read most None batches ended = tt
is_read most (Some bytes) batches ended = ended

pub is_error : (most : ℕ) (bytes : Option (List ℕ)) (error : IpcReadError) → Failed most error bytes → FirstOf most bytes (Err (errors.Ipc error))
is_error most None error h = tt
is_error most (Some bytes) error h = h

pub is_failure : (most : ℕ) (bytes : Option (List ℕ)) (e : Error) → FirstOf most bytes (Err (errors.Io e))
is_failure most None e = tt
is_failure most (Some bytes) e = tt

module _ {R : Type 0} (remaining : R → Option (List ℕ)) where
  -- an error at the start, an error of a batch
  pub first_error : (most : ℕ) (input : R) (e : ReadError) → Opens remaining all input (Err e) → FirstOf most (remaining input) (Err e)
  first_error most input (errors.Ipc error) h = is_error most (remaining input) error (unopened most (remaining input) error h)
  first_error most input (errors.Io e) h = is_failure most (remaining input) e

  pub next_error : (most i : ℕ) (done : List RecordBatchTree) (bytes : Option (List ℕ)) (old new : StreamReaderTree R) (e : ReadError) → i < most → ReadsNext remaining old new (Err e) → IsUnderWay most (most - i) done bytes (as_slice_reader remaining old) → FirstOf most bytes (Err e)
  next_error most i done bytes old new (errors.Ipc error) lt goes way = is_error most bytes error (failed most (most - (i + 1)) done error bytes (as_slice_reader remaining old) goes.0 (subst (λ (k : ℕ). IsUnderWay most k done bytes (as_slice_reader remaining old)) (one_left most i lt) way))
  next_error most i done bytes old new (errors.Io e) lt goes way = is_failure most bytes e

  pub next_end : (most i : ℕ) (batches : Vec Batch) (bytes : Option (List ℕ)) (old new : StreamReaderTree R) → i < most → ReadsNext remaining old new (Ok None) → IsUnderWay most (most - i) (map record_batch_of batches.items) bytes (as_slice_reader remaining old) → FirstOf most bytes (Ok batches)
  next_end most i batches bytes old new lt goes way = let done = map record_batch_of batches.items in is_read most bytes batches (no_more most (most - (i + 1)) done bytes (as_slice_reader remaining old) (as_slice_reader remaining new) goes.0 (subst (λ (k : ℕ). IsUnderWay most k done bytes (as_slice_reader remaining old)) (one_left most i lt) way))

  pub next_batch : (most i : ℕ) (before after : List Batch) (batch : Batch) (bytes : Option (List ℕ)) (old new : StreamReaderTree R) → i < most → after ≡ before ++ batch ∷ [] → ReadsNext remaining old new (Ok (Some batch)) → IsUnderWay most (most - i) (map record_batch_of before) bytes (as_slice_reader remaining old) → IsUnderWay most (most - (i + 1)) (map record_batch_of after) bytes (as_slice_reader remaining new)
  next_batch most i before after batch bytes old new lt is goes way =
      subst (λ (done : List RecordBatchTree). IsUnderWay most (most - (i + 1)) done bytes (as_slice_reader remaining new)) (sym (ap (map record_batch_of) is ∙ map-append record_batch_of before (batch ∷ [])))
      (one_more most (most - (i + 1)) (map record_batch_of before) (record_batch_of batch) bytes (as_slice_reader remaining old) (as_slice_reader remaining new) goes.0 (subst (λ (k : ℕ). IsUnderWay most k (map record_batch_of before) bytes (as_slice_reader remaining old)) (one_left most i lt) way))

  pub last_turn : (most i : ℕ) (batches : Vec Batch) (bytes : Option (List ℕ)) (reader : StreamReaderTree R) → most ≤ i → IsUnderWay most (most - i) (map record_batch_of batches.items) bytes (as_slice_reader remaining reader) → FirstOf most bytes (Ok batches)
  last_turn most i batches bytes reader le way =
      let none : most - i ≡ 0 = omega arith in
      is_read most bytes batches (enough most (map record_batch_of batches.items) bytes (as_slice_reader remaining reader) (subst (λ (k : ℕ). IsUnderWay most k (map record_batch_of batches.items) bytes (as_slice_reader remaining reader)) none way))

  pub no_turn : (most : ℕ) (input : R) (batches : List Batch) (reader : StreamReaderTree R) → batches ≡ [] → Opens remaining all input (Ok reader) → IsUnderWay most (most - 0) (map record_batch_of batches) (remaining input) (as_slice_reader remaining reader)
  no_turn most input batches reader none opens =
      let all : most ≡ most - 0 = omega arith in
      rw none (subst (λ (k : ℕ). IsUnderWay most k [] (remaining input) (as_slice_reader remaining reader)) all (opened most (remaining input) (as_slice_reader remaining reader) opens))
