use Rattle.std.proofs.Common.{◌≡◌, List, ℕ, [], ◌++◌, None, Ok, map, append_assoc, ap, ◌∙◌}
use Rattle.ipc_flatbuf.specs.MessageBytes.{end_of_stream}
use Rattle.ipc_schema.specs.Projections.{all}
use Rattle.ipc_schema.specs.ProjectedSchemas.{stream_projected_schema_at}
use Rattle.ipc_schema.specs.ProjectionLaws.{all_written}
use Rattle.ipc_schema.specs.Schemas.{SchemaModel, schema_of}
use Rattle.ipc_schema.specs.SchemaBytes.{schema_message}
use Rattle.ipc.specs.EntriesOf.{by_id}
use Rattle.ipc.specs.Streams.{RecordBatchTree, record_batch_of, column_types}
use Rattle.ipc.specs.EncodedStreams.{stream_dictionary_batches, BatchesRoundTrip}
use Rattle.ipc.specs.EncodedStreamLaws.{same_batches}
use Rattle.ipc.specs.CompressedStreams.{AppendsCompressedBatches, compressed_batches_error}
use Rattle.ipc.specs.CompressedStreamLaws.{compressed_stream_round_trips}
use Rattle.ipc.proofs.compressed.streams.write_compressed_stream.Goals as goal

pub returns-clause-again : goal.returns-clause-again
returns-clause-again c = λ rest.
    let s : SchemaModel = schema_of c.args.schema.now in
    let bs : List RecordBatchTree = map record_batch_of c.args.batches.now in
    let none : by_id c.new-emitted.result.entries ≡ [] = ap by_id c.new-emitted.ensures.empty in
    let ok : BatchesRoundTrip stream_dictionary_batches [] bs = rw none at c.in_ok-write_compressed_batches.ensures.plain in
    let form : compressed_batches_error (column_types s) [] bs ≡ None = rw (c.deref.ensures.value, none) at c.in_ok-write_compressed_batches.ensures.form in
    let batches : AppendsCompressedBatches [] bs c.in_ok-out.out.items c.write_compressed_batches.new.out.items = rw none at c.in_ok-write_compressed_batches.ensures.bytes in
    let schema : (after : List ℕ) → stream_projected_schema_at all (schema_message s ++ after) ≡ Ok (all_written s, after) = rw c.in_ok-out.ensures.bytes at c.in_ok-out.ensures.columns in
    let whole : c.extend_from_slice.new.self.items ≡ schema_message s ++ (batches.0 ++ end_of_stream) =
    c.in_ok-extend_from_slice.ensures.items ∙ ap (λ (x : List ℕ). x ++ end_of_stream) (batches.2 ∙ ap (λ (x : List ℕ). x ++ batches.0) c.in_ok-out.ensures.bytes) ∙ append_assoc (schema_message s) batches.0 end_of_stream in
    compressed_stream_round_trips s bs c.extend_from_slice.new.self.items rest (batches.0, batches.1, whole) schema c.in_ok-out.ensures.form form ok

pub returns-clause-same : goal.returns-clause-same
returns-clause-same c =
    let s : SchemaModel = schema_of c.args.schema.now in
    let bs : List RecordBatchTree = map record_batch_of c.args.batches.now in
    let none : by_id c.new-emitted.result.entries ≡ [] = ap by_id c.new-emitted.ensures.empty in
    same_batches s bs c.in_ok-out.ensures.form (rw none at c.in_ok-write_compressed_batches.ensures.plain)
