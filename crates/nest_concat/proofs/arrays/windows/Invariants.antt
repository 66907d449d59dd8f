use Rattle.std.proofs.Common.{◌≡◌, ◌≤◌, length, take, map}
use Rattle.std.specs.Prelude.{vec_capacity}
use Rattle.nest_array.specs.Seen.{layout_of}
use Rattle.nest_concat.specs.Joined.{AreArrays, whole}
use Rattle.nest_concat.proofs.arrays.windows.Given as goal

abbrev pub invariant-loop-array : goal.invariant-loop-array
invariant-loop-array l =
    record {
      room : length l.arrays ≤ vec_capacity l.windows;
      long : length l.windows.items ≡ l.array-index;
      gathered : l.windows.items ≡ map (λ a. whole (layout_of a)) (take l.array-index l.arrays);
      fit : AreArrays l.windows.items;
    }
