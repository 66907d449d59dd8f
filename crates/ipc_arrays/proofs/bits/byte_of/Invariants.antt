use Rattle.std.proofs.Common.{◌≡◌, ◌+◌, ◌-◌}
use Rattle.nest_memory.specs.Sublist.{sublist}
use Rattle.ipc_arrays.specs.Bitmaps.{byte_value}
use Rattle.ipc_arrays.proofs.bits.byte_of.Given as goal

abbrev pub invariant-loop-i : goal.invariant-loop-i
invariant-loop-i l = l.byte ≡ byte_value (sublist l.bits (l.first + (l.count - l.i)) l.i)
