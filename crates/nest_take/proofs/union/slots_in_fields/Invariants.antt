use Rattle.std.proofs.Common.{◌≡◌, ◌≤◌, length, map, take}
use Rattle.std.specs.Prelude.{vec_capacity}
use Rattle.nest_model.specs.Accessors.{start_of, union_offsets_of}
use Rattle.nest_model.specs.Meaning.{union_index}
use Rattle.nest_take.proofs.union.slots_in_fields.Given as goal

abbrev pub invariant-loop-place : goal.invariant-loop-place
invariant-loop-place l =
    record {
      room : length l.indices ≤ vec_capacity l.slots;
      same_length : length l.slots.items ≡ l.place-index;
      done : l.slots.items ≡ map (union_index (union_offsets_of l.array) (start_of l.array)) (take l.place-index l.indices);
    }
