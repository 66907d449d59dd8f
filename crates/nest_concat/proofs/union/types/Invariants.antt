use Rattle.std.proofs.Common.{◌≡◌, take}
use Rattle.std.specs.List.{flat_map}
use Rattle.nest_concat.specs.Moved.{type_ids_in}
use Rattle.nest_concat.proofs.union.types.Given as goal

abbrev pub invariant-loop-window : goal.invariant-loop-window
invariant-loop-window l = l.taken.items ≡ flat_map type_ids_in (take l.window-index l.windows)
