-- A reader reads a stream as `projected_stream_in` does.
use Rattle.std.specs.Prelude.{◌≡◌, ℕ, ◌-◌, List, ◌∷◌, length, Option, Some, None, Result, Ok, Err, refl}
use Rattle.std.proofs.Common.{ap, ◌∙◌}
use Rattle.ipc_flatbuf.specs.ReadResults.{◌>>=◌}
use Rattle.ipc_flatbuf.specs.declared.error.IpcReadError.{IpcReadError}
use Rattle.ipc_schema.specs.Projections.{ProjectionModel}
use Rattle.ipc_schema.specs.ProjectedSchemas.{ProjectedSchemaModel, stream_projected_schema_at}
use Rattle.ipc_schema.specs.Schemas.{SchemaModel}
use Rattle.ipc.specs.Streams.{RecordBatchTree, StreamTree, Next, start, next_in, with_others, batches_in, projected_stream_in}
use Rattle.ipc.specs.StreamLaws.{Batches, one_by_one}
use Rattle.ipc.specs.SliceStreamReaders.{SliceStreamReaderTree, reader_in, next_reader, next_of, batches_of, before, next_and_others, read_one_by_one, batches_of_stream}

-- without the bytes after it
abbrev alone : Batches → Result (List RecordBatchTree) IpcReadError
alone read = read >>= λ x. Ok x.0

abbrev joined : RecordBatchTree → Batches → Batches
joined batch read = read >>= λ x. Ok (batch ∷ x.0, x.1)

first_kept : (batch : RecordBatchTree) (read : Batches) → alone (joined batch read) ≡ before (Some batch) (alone read)
first_kept batch (Ok x) = refl
first_kept batch (Err error) = refl

abbrev with_all : Next → Batches
with_all read = read >>= λ next. with_others batches_in next.0.0 next.0.1 next.1

abbrev reader_after : Next → Result (Option RecordBatchTree × SliceStreamReaderTree) IpcReadError
reader_after read = read >>= λ next. Ok (next.0.0, next_reader next.0.0 next.0.1 next.1)

abbrev with_rest : Result (Option RecordBatchTree × SliceStreamReaderTree) IpcReadError → Result (List RecordBatchTree) IpcReadError
with_rest read = read >>= λ next. before next.0 (batches_of next.1)

step : (read : Next) → alone (with_all read) ≡ with_rest (reader_after read)
step (Ok ((None, s), left)) = refl
step (Ok ((Some batch, s), left)) = first_kept batch (batches_in s left)
step (Err error) = refl

-- all record batches of a reader are its next one, and those of the reader after it
pub reader_step : (r : SliceStreamReaderTree) → batches_of r ≡ next_and_others r
unfolding next_of
reader_step r = ap alone (one_by_one r.state r.left) ∙ step (next_in r.state r.left)

abbrev stream_made : List ℕ → SchemaModel → Batches → Result StreamTree IpcReadError
stream_made bytes schema read = read >>= λ batches. Ok (record { schema = schema; batches = batches.0; read = length bytes - length batches.1 })

abbrev batches_made : Result StreamTree IpcReadError → Result (List RecordBatchTree) IpcReadError
batches_made read = read >>= λ stream. Ok stream.batches

made_alone : (bytes : List ℕ) (schema : SchemaModel) (read : Batches) → batches_made (stream_made bytes schema read) ≡ alone read
made_alone bytes schema (Ok x) = refl
made_alone bytes schema (Err error) = refl

abbrev stream_after : List ℕ → Result (ProjectedSchemaModel × List ℕ) IpcReadError → Result StreamTree IpcReadError
stream_after bytes read = read >>= λ picked. stream_made bytes picked.0.schema (batches_in (start picked.0) picked.1)

abbrev reader_made : Result (ProjectedSchemaModel × List ℕ) IpcReadError → Result SliceStreamReaderTree IpcReadError
reader_made read = read >>= λ picked. Ok (record { state = start picked.0; left = picked.1 })

through : (bytes : List ℕ) (read : Result (ProjectedSchemaModel × List ℕ) IpcReadError) → batches_made (stream_after bytes read) ≡ (reader_made read >>= batches_of)
through bytes (Ok picked) = made_alone bytes picked.0.schema (batches_in (start picked.0) picked.1)
through bytes (Err error) = refl

-- the record batches of a stream are those of the reader of its bytes
pub reader_goes_through : (picks : ProjectionModel) (bytes : List ℕ) → batches_of_stream picks bytes ≡ read_one_by_one picks bytes
unfolding projected_stream_in reader_in
reader_goes_through picks bytes = through bytes (stream_projected_schema_at picks bytes)
