use Rattle.std.proofs.Common.{◌≡◌, ◌≤◌, length, take}
use Rattle.std.specs.Prelude.{vec_capacity}
use Rattle.nest_take.specs.Taken.{offsets_in}
use Rattle.nest_take.proofs.Picks.{AreCounts}
use Rattle.nest_take.proofs.union.new_offsets.Given as goal

abbrev pub invariant-loop-place : goal.invariant-loop-place
invariant-loop-place l =
    record {
      room : length l.indices ≤ vec_capacity l.offsets;
      same_length : length l.offsets.items ≡ l.place-index;
      counted : AreCounts l.array (take l.place-index l.indices) l.counts;
      done : l.offsets.items ≡ offsets_in l.array (take l.place-index l.indices);
    }
