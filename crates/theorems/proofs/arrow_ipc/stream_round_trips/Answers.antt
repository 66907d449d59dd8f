use Rattle.std.proofs.Common.{◌≡◌, [], map, length, Ok, ap}
use Rattle.ipc_schema.specs.Schemas.{schema_of}
use Rattle.ipc.specs.Streams.{StreamTree, record_batch_of, stream_in, stream_of}
use Rattle.ipc.specs.EncodedStreams.{decoded_stream}
use Rattle.theorems.proofs.RoundTrips.{one_stream}
use Rattle.theorems.proofs.arrow_ipc.stream_round_trips.Goals as goal

pub returns-in-Ok-clause-schema : goal.returns-in-Ok-clause-schema
returns-in-Ok-clause-schema c =
    let bytes = c.in_ok-bytes.bytes.items in
    let want : StreamTree = decoded_stream (schema_of c.args.schema.now) (map record_batch_of c.args.batches.now) (length bytes) in
    let read : stream_in bytes ≡ Ok (stream_of c.in-Ok.stream) = rw c.deref.ensures.value at c.in-Ok.ensures in
    ap (λ (t : StreamTree). t.schema) (one_stream bytes (stream_of c.in-Ok.stream) want read (c.in_ok-bytes.ensures.again []))

pub returns-in-Ok-clause-batches : goal.returns-in-Ok-clause-batches
returns-in-Ok-clause-batches c =
    let bytes = c.in_ok-bytes.bytes.items in
    let want : StreamTree = decoded_stream (schema_of c.args.schema.now) (map record_batch_of c.args.batches.now) (length bytes) in
    let read : stream_in bytes ≡ Ok (stream_of c.in-Ok.stream) = rw c.deref.ensures.value at c.in-Ok.ensures in
    ap (λ (t : StreamTree). t.batches) (one_stream bytes (stream_of c.in-Ok.stream) want read (c.in_ok-bytes.ensures.again []))
