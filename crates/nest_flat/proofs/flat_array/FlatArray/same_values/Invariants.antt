use Rattle.std.proofs.Common.{◌≡◌, ℕ, ◌+◌, ◌<◌}
use Rattle.nest_model.specs.Meaning.{slot}
use Rattle.nest_flat.specs.BareSlots.{bare}
use Rattle.nest_flat.proofs.flat_array.FlatArray.same_values.Given as goal

abbrev pub invariant-loop-k : goal.invariant-loop-k
invariant-loop-k g l = (j : ℕ) → j < l.k → slot (bare (g.Self.FlatArray.layout l.self)) (l.o + j) ≡ slot (bare (g.Self.FlatArray.layout l.other)) (l.p + j)
