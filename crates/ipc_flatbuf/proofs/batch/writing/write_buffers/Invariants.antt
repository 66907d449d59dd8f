use Rattle.std.proofs.Common.{◌≡◌, ◌++◌, take, drop}
use Rattle.std.specs.List.{flat_map, AllByRecursion}
use Rattle.ipc_flatbuf.specs.BatchBytes.{buffer_bytes}
use Rattle.ipc_flatbuf.specs.BatchLaws.{BufferFits}
use Rattle.ipc_flatbuf.proofs.batch.writing.write_buffers.Given as goal

abbrev pub invariant-loop-buffer : goal.invariant-loop-buffer
invariant-loop-buffer l = record {
  written : l.out.items ≡ l.initial.out.items ++ flat_map buffer_bytes (take l.buffer-index l.buffers);
  fits : AllByRecursion BufferFits (drop l.buffer-index l.buffers) → AllByRecursion BufferFits l.buffers;
}
