use Rattle.std.proofs.Common.{◌≡◌, take}
use Rattle.std.specs.List.{flat_map}
use Rattle.nest_concat.specs.Windows.{bytes_in}
use Rattle.nest_concat.proofs.spans.bytes.Given as goal

abbrev pub invariant-loop-window : goal.invariant-loop-window
invariant-loop-window g l = l.taken.items ≡ flat_map bytes_in (take l.window-index l.windows)
