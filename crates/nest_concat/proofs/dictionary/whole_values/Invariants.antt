use Rattle.std.proofs.Common.{◌≡◌, ◌≤◌, length, take, map}
use Rattle.std.specs.Prelude.{vec_capacity}
use Rattle.nest_concat.specs.Joined.{AreArrays}
use Rattle.nest_concat.specs.Lookups.{values_in}
use Rattle.nest_concat.proofs.dictionary.whole_values.Given as goal

abbrev pub invariant-loop-window : goal.invariant-loop-window
invariant-loop-window l =
    record {
      room : length l.windows ≤ vec_capacity l.values;
      long : length l.values.items ≡ l.window-index;
      gathered : l.values.items ≡ map values_in (take l.window-index l.windows);
      fit : AreArrays l.values.items;
    }
