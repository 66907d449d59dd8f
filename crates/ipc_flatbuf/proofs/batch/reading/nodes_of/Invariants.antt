use Rattle.std.proofs.Common.{◌≡◌}
use Rattle.ipc_flatbuf.specs.Flatbuffers.{structs_at}
use Rattle.ipc_flatbuf.specs.VectorLoops.{with_structs, structs_from}
use Rattle.ipc_flatbuf.specs.Batches.{spec_node_at}
use Rattle.ipc_flatbuf.proofs.batch.reading.nodes_of.Given as goal

abbrev pub invariant-loop-i : goal.invariant-loop-i
invariant-loop-i l = with_structs l.nodes.items (structs_from (spec_node_at l.bytes) 16 l.items.count l.items.first l.i) ≡ structs_at (spec_node_at l.bytes) 16 l.items.count l.items.first
