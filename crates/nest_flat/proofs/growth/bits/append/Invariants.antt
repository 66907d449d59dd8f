use Rattle.std.proofs.Common.{◌≡◌, ◌++◌}
use Rattle.nest_flat.proofs.growth.bits.append.Given as goal

abbrev pub invariant-loop-bit : goal.invariant-loop-bit
invariant-loop-bit l = record {
  added : l.bits ≡ l.initial.bits ++ l.yielded;
  left : l.more ≡ l.yielded ++ l.bit-iterator;
}
