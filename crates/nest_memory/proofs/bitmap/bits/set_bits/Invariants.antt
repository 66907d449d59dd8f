use Rattle.std.proofs.Common.{◌≡◌, ◌<◌, ◌≤◌, ℕ, length}
use Rattle.nest_memory.specs.Bits.{bit}
use Rattle.nest_memory.proofs.bitmap.bits.set_bits.Given as goal

abbrev pub invariant-loop-k : goal.invariant-loop-k
invariant-loop-k l = record {
  set : (j : ℕ) → l.start ≤ j → j < l.k → bit l.bytes.items j ≡ l.value;
  before : (j : ℕ) → j < l.start → bit l.bytes.items j ≡ bit l.fn.bytes.items j;
  after : (j : ℕ) → l.k ≤ j → bit l.bytes.items j ≡ bit l.fn.bytes.items j;
  len : length l.bytes.items ≡ length l.fn.bytes.items;
}
