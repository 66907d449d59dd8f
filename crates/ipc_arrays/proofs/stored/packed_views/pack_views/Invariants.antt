use Rattle.std.proofs.Common.{◌≤◌, map}
use Rattle.ipc_arrays.specs.Views.{viewed_string}
use Rattle.ipc_arrays.proofs.PackedViews.{IsPackedSoFar}
use Rattle.ipc_arrays.proofs.stored.packed_views.pack_views.Given as goal

abbrev pub invariant-loop-i : goal.invariant-loop-i
invariant-loop-i l = record {
  within : l.i ≤ l.slots;
  packed : IsPackedSoFar (viewed_string l.validity l.views (map (λ b. b.now) l.variadic)) l.i l.packed.offsets.items l.packed.values.items;
}
