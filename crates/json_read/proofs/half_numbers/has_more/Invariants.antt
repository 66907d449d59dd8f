use Rattle.std.proofs.Common.{◌≡◌, ◌-◌, ◌++◌, take, drop}
use Rattle.std.specs.Str.Parse.{digits_value}
use Rattle.json_read.proofs.half_numbers.has_more.Given as goal

-- the digits so far are zeros
abbrev pub invariant-loop-at : goal.invariant-loop-at
invariant-loop-at l = digits_value 10 (take (l.at - l.from) (drop l.from (l.whole ++ l.fraction))) ≡ 0
