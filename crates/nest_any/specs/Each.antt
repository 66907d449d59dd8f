-- The trees of the builders in a list.
use Rattle.std.specs.Prelude.{List as Seq, [], ◌∷◌}
use Rattle.nest_model.specs.BuilderTree.{BuilderTree, BuilderTrees, no_builders, more_builders}

-- the tree of each, in order
abbrev pub each : {A : Type 0} → (A → BuilderTree) → Seq A → BuilderTrees
each f [] = no_builders
each f (x ∷ xs) = more_builders (f x) (each f xs)
