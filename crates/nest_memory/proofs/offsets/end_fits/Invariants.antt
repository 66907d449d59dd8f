use Rattle.std.proofs.Common.{◌≡◌, ◌+◌, sum, take}
use Rattle.nest_memory.proofs.offsets.end_fits.Given as goal

abbrev pub invariant-loop-length : goal.invariant-loop-length
invariant-loop-length g l = l.end ≡ l.start + sum (take l.length-index l.lengths)
