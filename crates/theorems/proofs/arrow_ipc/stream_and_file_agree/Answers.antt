use Rattle.std.proofs.Common.{map}
use Rattle.ipc_schema.specs.Schemas.{schema_of}
use Rattle.ipc.specs.Streams.{record_batch_of}
use Rattle.ipc.specs.EncodedStreams.{decoded_batches}
use Rattle.ipc.specs.EncodedFiles.{decoded_file}
use Rattle.theorems.proofs.SameBatches.{same_both}
use Rattle.theorems.proofs.arrow_ipc.stream_and_file_agree.Goals as goal

pub returns-clause-batches : goal.returns-clause-batches
returns-clause-batches c =
    let bs = map record_batch_of c.args.batches.now in
    rw (c.in_ok-stream.ensures.batches, c.in_ok-file.ensures.batches) (same_both bs (decoded_batches bs) (decoded_file (schema_of c.args.schema.now) bs).batches c.in_ok-stream.ensures.same c.in_ok-file.ensures.same)
