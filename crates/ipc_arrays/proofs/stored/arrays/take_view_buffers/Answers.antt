use Rattle.std.proofs.Common.{arith}
use Rattle.ipc_arrays.specs.Projection.{projection_state}
use Rattle.ipc_arrays.proofs.Converting.{views_missing}
use Rattle.ipc_arrays.proofs.stored.arrays.take_view_buffers.Goals as goal

pub returns-then-count-ahead : goal.returns-then-count-ahead
returns-then-count-ahead c = views_missing (projection_state c.args.ahead) c.in_ok-count.count c.in_ok-count.others.now c.in_ok-count.ensures (omega (arith, c.if-count-ahead.true))
