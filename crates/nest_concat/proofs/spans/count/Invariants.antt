use Rattle.std.proofs.Common.{◌≡◌, take}
use Rattle.std.specs.List.{sum_by}
use Rattle.nest_concat.specs.Windows.{window_item_count}
use Rattle.nest_concat.proofs.spans.count.Given as goal

abbrev pub invariant-loop-window : goal.invariant-loop-window
invariant-loop-window g l = l.count ≡ sum_by window_item_count (take l.window-index l.windows)
