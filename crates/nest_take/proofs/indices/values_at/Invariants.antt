use Rattle.std.proofs.Common.{◌≡◌, ◌≤◌, length, take}
use Rattle.std.specs.Prelude.{vec_capacity}
use Rattle.nest_take.specs.Indices.{AreAt}
use Rattle.nest_take.proofs.indices.values_at.Given as goal

abbrev pub invariant-loop-place : goal.invariant-loop-place
invariant-loop-place g l =
    record {
      room : length l.indices ≤ vec_capacity l.taken;
      same_length : length l.taken.items ≡ l.place-index;
      done : AreAt l.values (take l.place-index l.indices) l.taken.items;
    }
