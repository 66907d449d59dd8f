use Rattle.std.proofs.Common.{ℕ, ◌<◌}
use Rattle.nest_model.specs.Accessors.{key_at}
use Rattle.nest_model.specs.Fits.{Names}
use Rattle.nest_array.proofs.dictionary.keys.each_names.Given as goal

abbrev pub invariant-loop-i : goal.invariant-loop-i
invariant-loop-i g l = (j : ℕ) → j < l.i → Names (key_at l.keys j) l.n
