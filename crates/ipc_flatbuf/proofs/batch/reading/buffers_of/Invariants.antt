use Rattle.std.proofs.Common.{◌≡◌}
use Rattle.ipc_flatbuf.specs.Flatbuffers.{structs_at}
use Rattle.ipc_flatbuf.specs.VectorLoops.{with_structs, structs_from}
use Rattle.ipc_flatbuf.specs.Batches.{spec_buffer_at}
use Rattle.ipc_flatbuf.proofs.batch.reading.buffers_of.Given as goal

abbrev pub invariant-loop-i : goal.invariant-loop-i
invariant-loop-i l = with_structs l.buffers.items (structs_from (spec_buffer_at l.bytes) 16 l.items.count l.items.first l.i) ≡ structs_at (spec_buffer_at l.bytes) 16 l.items.count l.items.first
