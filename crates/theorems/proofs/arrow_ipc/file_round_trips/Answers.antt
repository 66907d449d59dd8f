use Rattle.std.proofs.Common.{◌≡◌, map, Ok, ap}
use Rattle.ipc_schema.specs.Schemas.{schema_of}
use Rattle.ipc.specs.Streams.{record_batch_of}
use Rattle.ipc.specs.Files.{FileTree, file_in, file_of}
use Rattle.ipc.specs.EncodedFiles.{decoded_file}
use Rattle.theorems.proofs.RoundTrips.{one_file}
use Rattle.theorems.proofs.arrow_ipc.file_round_trips.Goals as goal

pub returns-in-Ok-clause-schema : goal.returns-in-Ok-clause-schema
returns-in-Ok-clause-schema c =
    let bytes = c.in_ok-bytes.bytes.items in
    let want : FileTree = decoded_file (schema_of c.args.schema.now) (map record_batch_of c.args.batches.now) in
    let read : file_in bytes ≡ Ok (file_of c.in-Ok.file) = rw c.deref.ensures.value at c.in-Ok.ensures in
    ap (λ (t : FileTree). t.schema) (one_file bytes (file_of c.in-Ok.file) want read c.in_ok-bytes.ensures.again)

pub returns-in-Ok-clause-batches : goal.returns-in-Ok-clause-batches
returns-in-Ok-clause-batches c =
    let bytes = c.in_ok-bytes.bytes.items in
    let want : FileTree = decoded_file (schema_of c.args.schema.now) (map record_batch_of c.args.batches.now) in
    let read : file_in bytes ≡ Ok (file_of c.in-Ok.file) = rw c.deref.ensures.value at c.in-Ok.ensures in
    ap (λ (t : FileTree). t.batches) (one_file bytes (file_of c.in-Ok.file) want read c.in_ok-bytes.ensures.again)
