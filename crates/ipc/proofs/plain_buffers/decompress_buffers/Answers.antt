use Rattle.std.proofs.Common.{ap}
use Rattle.ipc_arrays.specs.PlainBodies.{spec_plain_body}
use Rattle.ipc_arrays.specs.Stored.{with_read_error}
use Rattle.ipc.proofs.Decompression.{read_fails}
use Rattle.ipc.proofs.plain_buffers.decompress_buffers.Goals as goal

pub returns-in-Err : goal.returns-in-Err
returns-in-Err c = read_fails c.in-Err.error c.from.result (spec_plain_body c.args.codec c.args.body.now c.args.buffers.now c.args.needed.now) c.from.ensures c.in-Err.ensures.value

pub returns-in-Ok : goal.returns-in-Ok
returns-in-Ok c = ap with_read_error c.in-Ok.ensures.value
