use Rattle.std.proofs.Common.{ℕ, ◌<◌, ℤ, get_or}
use Rattle.nest_model.specs.Fits.{MeansField}
use Rattle.nest_array.specs.Positions.{meant}
use Rattle.nest_array.proofs.union.checks.mean_fields.Given as goal

abbrev pub invariant-loop-i : goal.invariant-loop-i
invariant-loop-i l = (j : ℕ) (d : ℤ) → j < l.i → MeansField (meant l.table (get_or l.types j d)) l.n
