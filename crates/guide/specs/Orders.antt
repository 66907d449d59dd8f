-- The record batches of the guide, and what is read of their files and streams.
use Rattle.std.specs.Global.{Vec}
use Rattle.std.specs.Prelude.{◌≡◌, ◌++◌, ℕ, zero, suc, true, List, [], ◌∷◌, length, map, Option, None, Some, Result, Ok, Err, codes}
use Rattle.nest_memory.specs.TypeTree as types
use Rattle.nest_memory.specs.TypeTree.{field}
use Rattle.nest_model.specs.Layout.{Layout}
use Rattle.nest_model.specs.SameArray.{IsSameArray}
use Rattle.nest_model.specs.Slot as slots
use Rattle.nest_model.specs.Slot.{Slot}
use Rattle.ipc_flatbuf.specs.ReadResults.{◌>>=◌, FailsOrRunsOut}
use Rattle.ipc_flatbuf.specs.declared.error.IpcReadError.{IpcReadError}
use Rattle.ipc_schema.specs.Projections.{all}
use Rattle.ipc_schema.specs.Schemas.{SchemaModel}
use Rattle.ipc.specs.declared.batch.Batch.{Batch}
use Rattle.ipc.specs.Streams.{RecordBatchTree, record_batch_of, stream_in}
use Rattle.ipc.specs.SliceStreamReaders.{SliceStreamReaderTree, before, next_of, reader_in}
use Rattle.ipc.specs.Files.{SliceFileReaderTree, batch_of_file, file_reader_in}
use Rattle.ipc.specs.EncodedStreams.{decoded_stream, encoded_stream}
use Rattle.ipc_io.specs.declared.error.ReadError.{ReadError}
use Rattle.ipc_io.specs.declared.error.ReadError.TheVariants as errors
use Rattle.guide.specs.Columns.{list_slot, number}

-- a string, a list of numbers, and a number, each nullable
abbrev pub order_schema : SchemaModel
order_schema = record {
  fields = field (codes "name") types.utf8 true [] ∷ field (codes "counts") (types.list (field (codes "item") types.int64 true [])) true [] ∷ field (codes "paid") types.int64 true [] ∷ [];
  metadata = [];
}

-- [1, null], null
abbrev pub two_counts : List Slot
two_counts = list_slot (number 1 ∷ slots.null ∷ []) ∷ slots.null ∷ []

-- 7, null
abbrev pub two_paid : List Slot
two_paid = number 7 ∷ slots.null ∷ []

-- the columns of an order with this name, and of a row of nulls
abbrev pub two_orders : List ℕ → List (List Slot)
two_orders name = (slots.utf8 name ∷ slots.null ∷ []) ∷ two_counts ∷ two_paid ∷ []

-- columns are equal one by one: equal data types and equal slots
abbrev pub AreSame : List Layout → List Layout → Type 0
AreSame [] [] = Unit {0}
AreSame [] (y ∷ ys) = ⊥
AreSame (x ∷ xs) [] = ⊥
AreSame (x ∷ xs) (y ∷ ys) = IsSameArray x y × AreSame xs ys

-- two batches have the same number of rows, and equal columns
abbrev pub HaveSameRows : RecordBatchTree → RecordBatchTree → Type 0
HaveSameRows a b = (a.rows ≡ b.rows) × AreSame a.columns b.columns

-- the stream that is written for a schema and batches decodes to them, whatever bytes follow it
abbrev pub StreamRoundTrips : SchemaModel → List RecordBatchTree → Type 0
StreamRoundTrips schema batches =
    let bytes = encoded_stream schema batches in
    (rest : List ℕ) → stream_in (bytes ++ rest) ≡ Ok (decoded_stream schema batches (length bytes))

-- the last batch of a file, if it has any
abbrev pub last_from : SliceFileReaderTree → ℕ → Result (Option RecordBatchTree) IpcReadError
last_from r zero = Ok None
last_from r (suc i) = batch_of_file r i >>= λ batch. Ok (Some batch)

abbrev pub last_of : SliceFileReaderTree → Result (Option RecordBatchTree) IpcReadError
last_of r = last_from r (length r.blocks)

abbrev pub last_batch_in : List ℕ → Result (Option RecordBatchTree) IpcReadError
last_batch_in bytes = file_reader_in all bytes >>= last_of

-- an error is the first one of the bytes, or an allocation failed; without an error the bytes decode
abbrev pub Refuses : {A : Type 0} → Option IpcReadError → Result A IpcReadError → Type 0
Refuses {A = A} None read = (x : A) × (read ≡ Ok x)
Refuses (Some error) read = FailsOrRunsOut error read

-- the next batches of a reader, at most so many
abbrev pub first_of : ℕ → SliceStreamReaderTree → Result (List RecordBatchTree) IpcReadError
first_of zero r = Ok []
first_of (suc most) r = next_of r >>= λ next. before next.0 (first_of most next.1)

abbrev pub first_in : ℕ → List ℕ → Result (List RecordBatchTree) IpcReadError
first_in most bytes = reader_in all bytes >>= first_of most

-- a reader returns the first batches of its bytes, where they are known, or their first error; a reader may fail before that
abbrev pub FirstOf : ℕ → Option (List ℕ) → Result (Vec Batch) ReadError → Type 0
FirstOf most None result = Unit {0}
FirstOf most (Some bytes) (Ok batches) = first_in most bytes ≡ Ok (map record_batch_of batches.items)
FirstOf most (Some bytes) (Err (errors.Ipc error)) = FailsOrRunsOut error (first_in most bytes)
FirstOf most (Some bytes) (Err (errors.Io e)) = Unit {0}
