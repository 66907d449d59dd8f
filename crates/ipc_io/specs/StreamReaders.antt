-- A reader of a stream over `Read`, which returns one record batch at a time.
use Rattle.std.specs.Prelude.{◌≡◌, ℕ, Bool, true, List, [], Option, None, Some, Result, Ok, Err, if◌then◌else◌, refl}
use Rattle.std.specs.Option.{option_map}
use Rattle.std.specs.Coded.{Coded, code_by, coded×, coded_bool}
use Rattle.ipc_flatbuf.specs.ReadResults.{FailsOrRunsOut}
use Rattle.ipc_flatbuf.specs.declared.error.IpcReadError as read_errors
use Rattle.ipc_schema.specs.declared.projected.ProjectedSchema.{ProjectedSchema}
use Rattle.ipc_schema.specs.ProjectedSchemas.{projected_schema_of, stream_projected_schema_at}
use Rattle.ipc_schema.specs.Projections.{ProjectionModel}
use Rattle.ipc.specs.declared.batch.Batch.{Batch}
use Rattle.ipc.specs.Streams.{RecordBatchTree, StateTree, record_batch_of, next_in}
use Rattle.ipc.specs.SliceStreamReaders.{SliceStreamReaderTree, coded_state, reader_in, next_of}
use Rattle.ipc_io.specs.declared.stream_reader.Found.{Found}
use Rattle.ipc_io.specs.declared.stream_reader.Found.TheVariants.{End, Dictionary, Next}
use Rattle.ipc_io.specs.declared.error.ReadError.{ReadError}
use Rattle.ipc_io.specs.declared.error.ReadError.TheVariants.{Ipc, Io}
use Rattle.ipc_io.specs.Fetched.{Fetches}

-- a reader of a stream: the inner reader, its state, and whether the stream is over, by its end or an error
pub record StreamReaderTree (R : Type 0) : Type 0 where
  pub inner : R
  pub state : StateTree
  pub over : Bool

abbrev pub coded_stream_reader : {R : Type 0} → Coded R → Coded (StreamReaderTree R)
coded_stream_reader {R = R} reader =
    code_by (R × (StateTree × Bool)) (coded× reader (coded× coded_state coded_bool)) (λ r. (r.inner, (r.state, r.over))) (λ p. record { inner = p.0; state = p.1.0; over = p.1.1 }) (λ _. refl)

-- the stream of a reader is over, and its projection is unchanged
abbrev pub IsClosed : {R : Type 0} → StreamReaderTree R → StreamReaderTree R → Type 0
IsClosed old new = (new.over ≡ true) × (new.state.picked ≡ old.state.picked)

-- the reader of these bytes in memory
abbrev pub with_left : StateTree → Option (List ℕ) → Option SliceStreamReaderTree
with_left s left = option_map (λ bytes. record { state = s; left = bytes }) left

-- the bytes decode to this reader
abbrev pub DecodesReader : ProjectionModel → Option (List ℕ) → Option SliceStreamReaderTree → Type 0
DecodesReader picks None r = Unit {0}
DecodesReader picks (Some bytes) None = ⊥
DecodesReader picks (Some bytes) (Some r) = reader_in picks bytes ≡ Ok r

-- or they have this error
abbrev pub FailsReader : ProjectionModel → read_errors.IpcReadError → Option (List ℕ) → Type 0
FailsReader picks error None = Unit {0}
FailsReader picks error (Some bytes) = FailsOrRunsOut error (reader_in picks bytes)

-- the next record batch of a reader in memory, and the reader after it
abbrev pub DecodesNext : Option SliceStreamReaderTree → Option SliceStreamReaderTree → Option RecordBatchTree → Type 0
DecodesNext None new batch = Unit {0}
DecodesNext (Some old) None batch = ⊥
DecodesNext (Some old) (Some new) batch = next_of old ≡ Ok (batch, new)

-- or its error
abbrev pub FailsNext : read_errors.IpcReadError → Option SliceStreamReaderTree → Type 0
FailsNext error None = Unit {0}
FailsNext error (Some old) = FailsOrRunsOut error (next_of old)

-- ---- where the bytes of a reader are known

-- the projected schema at the start of the bytes, and the bytes left
abbrev pub FirstIn : ProjectionModel → Option (List ℕ) → Option (List ℕ) → Result ProjectedSchema ReadError → Type 0
FirstIn picks old new result = Fetches (stream_projected_schema_at picks) projected_schema_of old new result

-- the next record batch, the state after it, and the bytes left
abbrev pub NextIn : StateTree → Option (List ℕ) → StateTree → Option (List ℕ) → Result (Option Batch) ReadError → Type 0
NextIn s None t new result = Unit {0}
NextIn s (Some xs) t None (Ok next) = ⊥
NextIn s (Some xs) t (Some ys) (Ok next) = next_in s xs ≡ Ok ((option_map record_batch_of next, t), ys)
NextIn s (Some xs) t new (Err (Ipc error)) = FailsOrRunsOut error (next_in s xs)
NextIn s (Some xs) t new (Err (Io e)) = Unit {0}

-- the next record batch is that of the bytes left, in the state left
abbrev pub GoesOn : StateTree → Option (List ℕ) → StateTree → Option (List ℕ) → Type 0
GoesOn s None t new = Unit {0}
GoesOn s (Some xs) t None = ⊥
GoesOn s (Some xs) t (Some ys) = next_in s xs ≡ next_in t ys

-- the next message: the end of the stream, a dictionary batch before the next record batch, or that
abbrev pub MessageIn : StateTree → Option (List ℕ) → StateTree → Option (List ℕ) → Result Found ReadError → Type 0
MessageIn s old t new (Ok End) = NextIn s old t new (Ok None)
MessageIn s old t new (Ok Dictionary) = GoesOn s old t new
MessageIn s old t new (Ok (Next batch)) = NextIn s old t new (Ok (Some batch))
MessageIn s old t new (Err e) = NextIn s old t new (Err e)

module _ {R : Type 0} (remaining : R → Option (List ℕ)) where
  -- a reader as one of its bytes in memory, where they are known; without bytes, where the stream is over
  abbrev pub as_slice_reader : StreamReaderTree R → Option SliceStreamReaderTree
  as_slice_reader r = with_left r.state (if r.over then Some [] else remaining r.inner)

  -- `new` returns the reader that the bytes decode to, or their error; an I/O error may be returned instead
  abbrev pub Opens : ProjectionModel → R → Result (StreamReaderTree R) ReadError → Type 0
  Opens picks reader (Ok r) = DecodesReader picks (remaining reader) (as_slice_reader r)
  Opens picks reader (Err (Ipc error)) = FailsReader picks error (remaining reader)
  Opens picks reader (Err (Io e)) = Unit {0}

  -- `next_batch` returns the next record batch of the reader of those bytes, or its error; after an error the stream is over
  abbrev pub ReadsNext : StreamReaderTree R → StreamReaderTree R → Result (Option Batch) ReadError → Type 0
  ReadsNext old new (Ok next) = DecodesNext (as_slice_reader old) (as_slice_reader new) (option_map record_batch_of next) × (new.state.picked ≡ old.state.picked)
  ReadsNext old new (Err (Ipc error)) = FailsNext error (as_slice_reader old) × IsClosed old new
  ReadsNext old new (Err (Io e)) = IsClosed old new
