use Rattle.std.proofs.Common.{◌≡◌, ◌++◌, map}
use Rattle.std.specs.List.{range_with_len}
use Rattle.ipc_arrays.specs.Bitmaps.{byte_from}
use Rattle.ipc_arrays.proofs.bits.write_bits.Given as goal

abbrev pub invariant-loop-j : goal.invariant-loop-j
invariant-loop-j l = l.out.items ≡ l.initial.out.items ++ map (byte_from l.bits) (range_with_len 0 l.j)
