use Rattle.std.proofs.Common.{◌≡◌, List, ℕ, [], ◌++◌, None, Ok, map, append_assoc, ap}
use Rattle.ipc_flatbuf.specs.MessageBytes.{end_of_stream}
use Rattle.ipc_schema.specs.Projections.{all}
use Rattle.ipc_schema.specs.ProjectedSchemas.{stream_projected_schema_at}
use Rattle.ipc_schema.specs.ProjectionLaws.{all_written}
use Rattle.ipc_schema.specs.Schemas.{SchemaModel, schema_of}
use Rattle.ipc_schema.specs.SchemaBytes.{schema_message}
use Rattle.ipc.specs.EntriesOf.{by_id}
use Rattle.ipc.specs.Streams.{RecordBatchTree, record_batch_of, column_types}
use Rattle.ipc.specs.EncodedStreams.{stream_dictionary_batches, encoded_batches, encoded_messages, encoded_stream, batches_error, BatchesRoundTrip}
use Rattle.ipc.specs.EncodedStreamLaws.{same_batches, stream_round_trips}
use Rattle.ipc.proofs.writing.write_stream.Goals as goal

pub returns-clause-again : goal.returns-clause-again
unfolding encoded_messages
returns-clause-again c = λ rest.
    let s : SchemaModel = schema_of c.args.schema.now in
    let bs : List RecordBatchTree = map record_batch_of c.args.batches.now in
    let none : by_id c.new-emitted.result.entries ≡ [] = ap by_id c.new-emitted.ensures.empty in
    let ok : BatchesRoundTrip stream_dictionary_batches [] bs = rw none at c.in_ok-write_batches.ensures.again in
    let form : batches_error (column_types s) [] bs ≡ None = rw (c.deref.ensures.value, none) at c.in_ok-write_batches.ensures.form in
    let schema : (after : List ℕ) → stream_projected_schema_at all (schema_message s ++ after) ≡ Ok (all_written s, after) = rw c.in_ok-out.ensures.bytes at c.in_ok-out.ensures.columns in
    let bytes : c.extend_from_slice.new.self.items ≡ encoded_stream s bs =
    rw (c.in_ok-extend_from_slice.ensures.items, c.in_ok-write_batches.ensures.bytes, c.in_ok-out.ensures.bytes, none) (append_assoc (schema_message s) (encoded_batches stream_dictionary_batches [] bs) end_of_stream) in
    rw bytes (stream_round_trips s bs rest schema c.in_ok-out.ensures.form form ok)

pub returns-clause-same : goal.returns-clause-same
returns-clause-same c =
    let s : SchemaModel = schema_of c.args.schema.now in
    let bs : List RecordBatchTree = map record_batch_of c.args.batches.now in
    let none : by_id c.new-emitted.result.entries ≡ [] = ap by_id c.new-emitted.ensures.empty in
    same_batches s bs c.in_ok-out.ensures.form (rw none at c.in_ok-write_batches.ensures.again)
