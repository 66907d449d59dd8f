use Rattle.std.proofs.Common.{◌≡◌, ◌<◌, ◌^◌, List, ℕ, length, map, take}
use Rattle.ipc_arrays.specs.Encoding.{AppendsBuffers}
use Rattle.ipc_arrays.proofs.layout.layout_buffers.Given as goal

abbrev pub invariant-loop-size : goal.invariant-loop-size
invariant-loop-size l = record {
  nodes : l.layout.nodes ≡ l.initial.layout.nodes;
  small : l.layout.length < 2 ^ 63;
  longer : (buffers : List (List ℕ)) → map length buffers ≡ l.sizes → AppendsBuffers l.initial.layout l.layout (take l.size-index buffers);
}
