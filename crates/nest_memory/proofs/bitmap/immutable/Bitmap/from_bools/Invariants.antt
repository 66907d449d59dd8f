use Rattle.std.proofs.Common.{◌≡◌, take}
use Rattle.nest_memory.proofs.bitmap.immutable.Bitmap.from_bools.Given as goal

abbrev pub invariant-loop-bit : goal.invariant-loop-bit
invariant-loop-bit l = l.bitmap ≡ take l.bit-index l.bools
