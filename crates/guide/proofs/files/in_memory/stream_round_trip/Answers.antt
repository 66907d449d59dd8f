use Rattle.std.proofs.Common.{◌≡◌, [], map, length, Ok, ap}
use Rattle.ipc_schema.specs.Schemas.{schema_of}
use Rattle.ipc.specs.Streams.{StreamTree, record_batch_of, stream_in, stream_of}
use Rattle.ipc.specs.EncodedStreams.{decoded_stream}
use Rattle.guide.proofs.RoundTrips.{same_stream}
use Rattle.guide.proofs.files.in_memory.stream_round_trip.Goals as goal

pub returns-clause-schema : goal.returns-clause-schema
returns-clause-schema c =
    let bytes = c.in_ok-bytes.bytes.items in
    let got = stream_of c.in_ok-read_stream.field-0 in
    let want : StreamTree = decoded_stream (schema_of c.args.schema.now) (map record_batch_of c.args.batches.now) (length bytes) in
    let read : stream_in bytes ≡ Ok got = rw c.deref.ensures.value at c.in_ok-read_stream.ensures in
    ap (λ (t : StreamTree). t.schema) (same_stream bytes got want read (c.in_ok-bytes.ensures.again []))

pub returns-clause-batches : goal.returns-clause-batches
returns-clause-batches c =
    let bytes = c.in_ok-bytes.bytes.items in
    let got = stream_of c.in_ok-read_stream.field-0 in
    let want : StreamTree = decoded_stream (schema_of c.args.schema.now) (map record_batch_of c.args.batches.now) (length bytes) in
    let read : stream_in bytes ≡ Ok got = rw c.deref.ensures.value at c.in_ok-read_stream.ensures in
    ap (λ (t : StreamTree). t.batches) (same_stream bytes got want read (c.in_ok-bytes.ensures.again []))
