use Rattle.std.proofs.Common.{◌≡◌, take}
use Rattle.std.specs.List.{flat_map}
use Rattle.nest_concat.specs.Windows.{blocks_in}
use Rattle.nest_concat.proofs.fixed_size_binary.bytes.Given as goal

abbrev pub invariant-loop-window : goal.invariant-loop-window
invariant-loop-window l = l.taken.items ≡ flat_map (blocks_in l.size) (take l.window-index l.windows)
