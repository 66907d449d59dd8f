use Rattle.std.proofs.Common.{◌≡◌, ◌+◌, ◌*◌, ◌≤◌, ◌++◌, length, drop}
use Rattle.ipc_flatbuf.specs.PartBytes.{offsets, concatenated, bytes_of_each}
use Rattle.ipc_flatbuf.proofs.writers.write_offsets.Given as goal

abbrev pub invariant-loop-body : goal.invariant-loop-body
invariant-loop-body l = record {
  row : l.out.items ++ offsets l.head l.distance (bytes_of_each (drop l.body-index l.bodies)) ≡ l.initial.out.items ++ offsets l.head l.initial.distance (bytes_of_each l.bodies);
  position : l.distance + 4 * l.body-index + length (concatenated (bytes_of_each (drop l.body-index l.bodies))) ≡ l.initial.distance + length (concatenated (bytes_of_each l.bodies));
  low : 4 * length l.bodies ≤ l.distance + 4 * l.body-index;
}
