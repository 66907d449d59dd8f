use Rattle.std.proofs.Common.{◌≡◌, ℕ, ◌+◌, ◌<◌}
use Rattle.nest_model.specs.Meaning.{slot}
use Rattle.nest_flat.proofs.flat_array.FlatArray.each_same_slot.Given as goal

abbrev pub invariant-loop-k : goal.invariant-loop-k
invariant-loop-k g l = (j : ℕ) → j < l.k → slot (g.Self.FlatArray.layout l.self) (l.o + j) ≡ slot (g.Self.FlatArray.layout l.other) (l.p + j)
