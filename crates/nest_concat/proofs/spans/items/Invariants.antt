use Rattle.std.proofs.Common.{◌≡◌, ◌≤◌, length, take, map}
use Rattle.std.specs.Prelude.{vec_capacity}
use Rattle.nest_concat.specs.Joined.{AreArrays}
use Rattle.nest_concat.specs.Windows.{items_in}
use Rattle.nest_concat.proofs.spans.items.Given as goal

abbrev pub invariant-loop-window : goal.invariant-loop-window
invariant-loop-window g l =
    record {
      room : length l.windows ≤ vec_capacity l.items;
      long : length l.items.items ≡ l.window-index;
      gathered : l.items.items ≡ map items_in (take l.window-index l.windows);
      fit : AreArrays l.items.items;
    }
