-- Calls do not change the depth of a builder.
use Rattle.std.proofs.Common.{◌≡◌, ℕ, ◌*◌, refl, arith}
use Rattle.nest_memory.specs.TypeTree.{size_of}
use Rattle.nest_model.specs.BuilderTree.{BuilderTree, BuilderTrees, flat, list, fixed_size_list, dictionary, struct, no_builders, more_builders}
use Rattle.nest_model.specs.BuilderAppend.{nulls_appended, nulls_appended_each}
use Rattle.nest_any.specs.BuilderCode.{weight, weight_all}

mutual
  pub weight-nulls : (n : ℕ) (t : BuilderTree) → weight (nulls_appended n t) ≡ weight t
  weight-nulls n (flat k xs) = refl
  weight-nulls n (list large k rows c) = refl
  weight-nulls n (fixed_size_list k bits c) = omega (arith, weight-nulls (n * size_of k) c)
  weight-nulls n (dictionary i k keys c) = refl
  weight-nulls n (struct k bits cs) = omega (arith, weight-nulls-each n cs)

  weight-nulls-each : (n : ℕ) (cs : BuilderTrees) → weight_all (nulls_appended_each n cs) ≡ weight_all cs
  weight-nulls-each n no_builders = refl
  weight-nulls-each n (more_builders c cs) = omega (arith, weight-nulls n c, weight-nulls-each n cs)
