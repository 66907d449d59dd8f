use Rattle.std.proofs.Common.{◌≡◌, drop, map, sum, leb}
use Rattle.ipc_flatbuf.specs.Batches.{length_of}
use Rattle.ipc_flatbuf.proofs.batch.bounds.total_within.Given as goal

abbrev pub invariant-loop-buffer : goal.invariant-loop-buffer
invariant-loop-buffer l = leb (sum (map length_of (drop l.buffer-index l.buffers))) l.left ≡ leb (sum (map length_of l.buffers)) l.body
