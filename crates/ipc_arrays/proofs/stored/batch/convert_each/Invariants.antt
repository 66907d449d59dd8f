use Rattle.std.proofs.Common.{◌≡◌, drop}
use Rattle.ipc_arrays.specs.Projection.{projection_state}
use Rattle.ipc_arrays.specs.Stored.{converted_each, converted_of, with_arrays}
use Rattle.ipc_arrays.proofs.stored.batch.convert_each.Given as goal

abbrev pub invariant-loop-array : goal.invariant-loop-array
invariant-loop-array l = with_arrays (converted_of l.out) (converted_each l.codec l.body (drop l.array-index l.arrays) (projection_state l.at)) ≡ with_arrays (converted_of l.initial.out) (converted_each l.codec l.body l.arrays (projection_state l.initial.ahead))
