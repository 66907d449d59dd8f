use Rattle.std.proofs.Common.{◌≡◌, map, take}
use Rattle.std.specs.List.{flat_map}
use Rattle.nest_model.specs.Accessors.{as_integer}
use Rattle.nest_concat.specs.Lookups.{keys_in}
use Rattle.nest_concat.proofs.keys.kept_keys.Given as goal

abbrev pub invariant-loop-window : goal.invariant-loop-window
invariant-loop-window g l = map as_integer (map g.K.NativeType.numbers l.raw.items) ≡ flat_map (keys_in 0) (take l.window-index l.windows)
