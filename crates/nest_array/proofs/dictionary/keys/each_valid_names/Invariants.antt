use Rattle.std.proofs.Common.{◌≡◌, ℕ, ◌<◌, true}
use Rattle.nest_model.specs.Accessors.{key_at}
use Rattle.nest_model.specs.Fits.{Names}
use Rattle.nest_model.specs.Part.{valid_at}
use Rattle.nest_array.proofs.dictionary.keys.each_valid_names.Given as goal

abbrev pub invariant-loop-i : goal.invariant-loop-i
invariant-loop-i g l = (j : ℕ) → j < l.i → valid_at l.validity j ≡ true → Names (key_at l.keys j) l.n
