use Rattle.std.proofs.Common.{◌≡◌, ◌^◌, ◌<◌, ◌++◌, take}
use Rattle.std.specs.Str.Parse.{digits_value}
use Rattle.json_read.proofs.half_numbers.front_value.Given as goal

abbrev pub invariant-loop-at : goal.invariant-loop-at
invariant-loop-at l = (l.value ≡ digits_value 10 (take l.at (l.whole ++ l.fraction))) × (l.value < 2 ^ 100)
