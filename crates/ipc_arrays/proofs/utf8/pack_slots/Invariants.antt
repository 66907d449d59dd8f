use Rattle.std.proofs.Common.{◌≤◌}
use Rattle.nest_model.specs.Part.{count_rows}
use Rattle.ipc_arrays.specs.Decoding.{binary_parts, string_of_slot}
use Rattle.ipc_arrays.proofs.Packings.{IsPackedSoFar}
use Rattle.ipc_arrays.proofs.utf8.pack_slots.Given as goal

abbrev pub invariant-loop-i : goal.invariant-loop-i
invariant-loop-i g l = record {
  within : l.i ≤ count_rows l.offsets;
  packed : IsPackedSoFar (string_of_slot (binary_parts l.offsets l.bytes l.validity)) l.i l.packed.offsets l.packed.bytes.items;
}
