use Rattle.std.proofs.Common.{◌≡◌, ℕ, ◌+◌, ◌<◌}
use Rattle.nest_model.specs.Meaning.{slot}
use Rattle.nest_flat.proofs.primitive.iterator.RefPrimitiveArrayFlatArray.each_same_slot.Given as goal

abbrev pub invariant-loop-k : goal.invariant-loop-k
invariant-loop-k g l = (j : ℕ) → j < l.k → slot l.self.now (l.o + j) ≡ slot l.other.now (l.p + j)
