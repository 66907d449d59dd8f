use Rattle.std.proofs.Common.{◌≡◌, take, map}
use Rattle.std.specs.List.{flat_map}
use Rattle.nest_concat.specs.Windows.{natives_in}
use Rattle.nest_concat.proofs.primitive.values.Given as goal

abbrev pub invariant-loop-window : goal.invariant-loop-window
invariant-loop-window g l = map g.T.NativeType.numbers l.taken.items ≡ flat_map natives_in (take l.window-index l.windows)
