use Rattle.std.proofs.Common.{arith}
use Rattle.ipc_schema.specs.Projections.{projection_of}
use Rattle.ipc.specs.Streams.{state_of}
use Rattle.ipc.specs.StreamLaws.{schema_leaves, batches_leave}
use Rattle.ipc.proofs.stream.read_stream_projected.Goals as goal

pub overflow_sub-read : goal.overflow_sub-read
overflow_sub-read c =
    let first = rw c.in_ok-picked.ensures at (schema_leaves (projection_of c.args.columns) c.args.bytes.now) in
    let others = rw c.in_ok-batches.ensures.read at (batches_leave (state_of c.new-state.result) c.in_ok-picked.rest.now) in
    omega arith
