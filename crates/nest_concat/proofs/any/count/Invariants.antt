use Rattle.std.proofs.Common.{◌≡◌, take}
use Rattle.std.specs.List.{sum_by}
use Rattle.nest_concat.specs.Windows.{count_of}
use Rattle.nest_concat.proofs.any.count.Given as goal

abbrev pub invariant-loop-window : goal.invariant-loop-window
invariant-loop-window l = l.count ≡ sum_by count_of (take l.window-index l.windows)
