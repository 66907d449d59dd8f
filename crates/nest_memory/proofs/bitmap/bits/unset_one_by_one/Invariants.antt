use Rattle.std.proofs.Common.{◌≡◌, ◌≤◌, count_by, not}
use Rattle.nest_memory.specs.Bits.{bits_from}
use Rattle.nest_memory.proofs.bitmap.bits.unset_one_by_one.Given as goal

abbrev pub invariant-loop-i : goal.invariant-loop-i
invariant-loop-i l = (l.unset ≡ count_by not (bits_from l.bytes l.start l.i)) × (l.unset ≤ l.i)
