use Rattle.std.proofs.Common.{◌≡◌, drop, map}
use Rattle.nest_array.specs.Seen.{layout_of}
use Rattle.ipc_arrays.specs.Decoding.{rest_of, decoded_each}
use Rattle.ipc_arrays.proofs.Orders.{with_projection}
use Rattle.ipc_arrays.proofs.columns.read_each.Given as goal

abbrev pub invariant-loop-it : goal.invariant-loop-it
invariant-loop-it g l = with_projection (map layout_of l.columns.items) (decoded_each (map g.A.HasDataType.tree (drop l.it-index l.types)) l.rows l.body (rest_of l.rest)) ≡ decoded_each (map g.A.HasDataType.tree l.types) l.rows l.body (rest_of l.initial.cursor)
