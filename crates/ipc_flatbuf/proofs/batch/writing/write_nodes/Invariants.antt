use Rattle.std.proofs.Common.{◌≡◌, ◌++◌, take, drop}
use Rattle.std.specs.List.{flat_map, AllByRecursion}
use Rattle.ipc_flatbuf.specs.BatchBytes.{node_bytes}
use Rattle.ipc_flatbuf.specs.BatchLaws.{NodeFits}
use Rattle.ipc_flatbuf.proofs.batch.writing.write_nodes.Given as goal

abbrev pub invariant-loop-node : goal.invariant-loop-node
invariant-loop-node l = record {
  written : l.out.items ≡ l.initial.out.items ++ flat_map node_bytes (take l.node-index l.nodes);
  fits : AllByRecursion NodeFits (drop l.node-index l.nodes) → AllByRecursion NodeFits l.nodes;
}
