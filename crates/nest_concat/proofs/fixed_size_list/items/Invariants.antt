use Rattle.std.proofs.Common.{◌≡◌, ◌≤◌, length, take, map}
use Rattle.std.specs.Prelude.{vec_capacity}
use Rattle.nest_concat.specs.Joined.{AreArrays}
use Rattle.nest_concat.specs.Windows.{blocks_of}
use Rattle.nest_concat.proofs.fixed_size_list.items.Given as goal

abbrev pub invariant-loop-window : goal.invariant-loop-window
invariant-loop-window l =
    record {
      room : length l.windows ≤ vec_capacity l.items;
      long : length l.items.items ≡ l.window-index;
      gathered : l.items.items ≡ map (blocks_of l.size) (take l.window-index l.windows);
      fit : AreArrays l.items.items;
    }
