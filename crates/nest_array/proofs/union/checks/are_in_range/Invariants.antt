use Rattle.std.proofs.Common.{ℕ, ◌<◌, ℤ, get_or}
use Rattle.nest_model.specs.Fits.{Names}
use Rattle.nest_array.proofs.union.checks.are_in_range.Given as goal

abbrev pub invariant-loop-i : goal.invariant-loop-i
invariant-loop-i l = (j : ℕ) (d : ℤ) → j < l.i → Names (get_or l.ids j d) 128
