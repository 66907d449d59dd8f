use Rattle.std.proofs.Common.{◌≡◌, ◌++◌, drop}
use Rattle.ipc_flatbuf.specs.PartBytes.{concatenated, bytes_of_each}
use Rattle.ipc_flatbuf.proofs.writers.write_each.Given as goal

abbrev pub invariant-loop-body : goal.invariant-loop-body
invariant-loop-body l = l.out.items ++ concatenated (bytes_of_each (drop l.body-index l.bodies)) ≡ l.initial.out.items ++ concatenated (bytes_of_each l.bodies)
