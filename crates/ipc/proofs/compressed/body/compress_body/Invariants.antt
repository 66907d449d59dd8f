use Rattle.ipc.proofs.Bodies.{CompressesFirst}
use Rattle.ipc.proofs.compressed.body.compress_body.Given as goal

abbrev pub invariant-loop-buffer : goal.invariant-loop-buffer
invariant-loop-buffer l = CompressesFirst l.body l.buffers l.buffer-index l.compressed.items l.out.items
