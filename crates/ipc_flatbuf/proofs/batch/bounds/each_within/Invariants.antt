use Rattle.std.proofs.Common.{◌≡◌, drop}
use Rattle.ipc_flatbuf.specs.Batches.{spec_each_within}
use Rattle.ipc_flatbuf.proofs.batch.bounds.each_within.Given as goal

abbrev pub invariant-loop-buffer : goal.invariant-loop-buffer
invariant-loop-buffer l = spec_each_within l.body (drop l.buffer-index l.buffers) ≡ spec_each_within l.body l.buffers
