use Rattle.std.proofs.Common.{arith}
use Rattle.ipc_arrays.proofs.Offsets.{offsets_past}
use Rattle.ipc_arrays.proofs.strings.read_offsets.Goals as goal

pub returns-in-None-clause-read : goal.returns-in-None-clause-read
returns-in-None-clause-read g c = λ known. offsets_past g.O.Offset.IS_LARGE c.args.slots c.args.bytes.now c.in-None.ensures (omega arith)
