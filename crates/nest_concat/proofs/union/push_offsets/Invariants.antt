use Rattle.std.proofs.Common.{◌≡◌, ◌++◌, map}
use Rattle.std.specs.List.{range_with_len}
use Rattle.nest_concat.specs.Moved.{offset_by}
use Rattle.nest_concat.proofs.union.push_offsets.Given as goal

abbrev pub invariant-loop-i : goal.invariant-loop-i
invariant-loop-i l = l.offsets.items ≡ l.initial.offsets.items ++ map (offset_by l.ends l.counts l.window) (range_with_len l.start l.i)
