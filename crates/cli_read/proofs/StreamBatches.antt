-- Record batches of a stream.
use Rattle.std.proofs.Common.{◌≡◌, ℕ, suc, List, [], Option, Some, None, Result, Ok, Err, refl, ap, ◌∙◌, arith}
use Rattle.ipc_flatbuf.specs.ReadResults.{◌>>=◌}
use Rattle.ipc_flatbuf.specs.declared.error.IpcReadError as formats
use Rattle.ipc_schema.specs.Projections.{ProjectionModel}
use Rattle.ipc.specs.Streams.{RecordBatchTree, StateTree}
use Rattle.ipc.specs.SliceStreamReaders.{SliceStreamReaderTree, batches_of, before, next_of, reader_in}
use Rattle.ipc.specs.ReaderLaws.{reader_step}
use Rattle.ipc_io.specs.StreamReaders.{with_left}
use Rattle.cli_rows.specs.Tables.{TableTree}
use Rattle.cli_read.specs.Decoded.{Decoded, stream_contents, first_of_stream, table_with}
use Rattle.cli_read.specs.Remaining.{remaining_in_stream, with_schema}
use Rattle.cli_read.proofs.FirstLaws.{stream-whole}

pub first-step : (m : ℕ) (u v : SliceStreamReaderTree) (next : Option RecordBatchTree) → next_of u ≡ Ok (next, v) → first_of_stream (suc m) u ≡ before next (first_of_stream m v)
unfolding first_of_stream
first-step m u v next is = rw is refl

pub whole-step : (u v : SliceStreamReaderTree) (next : Option RecordBatchTree) → next_of u ≡ Ok (next, v) → batches_of u ≡ before next (batches_of v)
whole-step u v next is = reader_step u ∙ ap (λ (x : Result (Option RecordBatchTree × SliceStreamReaderTree) formats.IpcReadError). x >>= λ y. before y.0 (batches_of y.1)) is

pub first-fails : (m : ℕ) (u : SliceStreamReaderTree) (error : formats.IpcReadError) → next_of u ≡ Err error → first_of_stream (suc m) u ≡ Err error
unfolding first_of_stream
first-fails m u error is = rw is refl

pub first-zero : (u : SliceStreamReaderTree) → first_of_stream 0 u ≡ Ok []
unfolding first_of_stream
first-zero u = refl

pub state-of : (s : StateTree) (left : Option (List ℕ)) (t : SliceStreamReaderTree) → with_left s left ≡ Some t → s ≡ t.state
state-of s None t e = absurd cc
state-of s (Some xs) t e = let is : record { state = s; left = xs } ≡ t = grind (arith, e) in ap (λ (x : SliceStreamReaderTree). x.state) is

abbrev spelled_by : Result SliceStreamReaderTree formats.IpcReadError → Decoded
spelled_by read = record {
  first = λ k. read >>= λ r. table_with r.state.picked.schema (first_of_stream k r);
  whole = read >>= λ r. table_with r.state.picked.schema (batches_of r);
}

pub spelled-is : (picks : ProjectionModel) (bytes : List ℕ) (t : SliceStreamReaderTree) → reader_in picks bytes ≡ Ok t → stream_contents picks bytes ≡ with_schema t.state.picked.schema (remaining_in_stream t)
spelled-is picks bytes t e =
    ap (λ (w : Result TableTree formats.IpcReadError). record { first = (stream_contents picks bytes).first; whole = w }) (stream-whole picks bytes)
    ∙ ap spelled_by e
