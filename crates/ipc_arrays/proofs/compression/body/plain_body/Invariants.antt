use Rattle.ipc_arrays.proofs.PlainBodies.{IsLaidOut}
use Rattle.ipc_arrays.proofs.compression.body.plain_body.Given as goal

abbrev pub invariant-loop-index : goal.invariant-loop-index
invariant-loop-index l = IsLaidOut l.codec l.body l.buffers l.needed l.index l.plain_buffers.items l.plain.items
