-- A builder after a borrowed child was written.
use Rattle.std.specs.Prelude.{ℕ, zero, suc, Option, Some, None}
use Rattle.nest_any.specs.declared.any.AnyMutableArray.{AnyMutableArray}
use Rattle.nest_any.specs.declared.any.AnyMutableArray.TheVariants.{List, Struct}
pub use Rattle.nest_build.specs.Children.{with_items}
use Rattle.nest_model.specs.BuilderTree.{BuilderTree, BuilderTrees, flat, list, fixed_size_list, dictionary, struct, no_builders, more_builders}

-- the first children replaced by others
abbrev pub written_over : BuilderTrees → BuilderTrees → BuilderTrees
written_over no_builders ds = no_builders
written_over (more_builders c cs) no_builders = more_builders c cs
written_over (more_builders c cs) (more_builders d ds) = more_builders d (written_over cs ds)

-- a struct builder with its children replaced, or with child i replaced
abbrev pub with_children : BuilderTree → BuilderTrees → BuilderTree
with_children (struct t bits cs) ds = struct t bits (written_over cs ds)
with_children b ds = b

abbrev pub set_builder : BuilderTrees → ℕ → BuilderTree → BuilderTrees
set_builder no_builders i d = no_builders
set_builder (more_builders c cs) zero d = more_builders d cs
set_builder (more_builders c cs) (suc i) d = more_builders c (set_builder cs i d)

abbrev pub with_field : BuilderTree → ℕ → BuilderTree → BuilderTree
with_field (struct t bits cs) i d = struct t bits (set_builder cs i d)
with_field b i d = b

-- child i: a list has child 0, a flat or dictionary builder has none
abbrev pub builder_at : BuilderTrees → ℕ → Option BuilderTree
builder_at no_builders i = None
builder_at (more_builders c cs) zero = Some c
builder_at (more_builders c cs) (suc i) = builder_at cs i

abbrev pub child_builder : ℕ → BuilderTree → Option BuilderTree
child_builder i (flat t xs) = None
child_builder i (list large t rows c) = builder_at (more_builders c no_builders) i
child_builder i (fixed_size_list t bits c) = builder_at (more_builders c no_builders) i
child_builder i (dictionary k t keys c) = None
child_builder i (struct t bits cs) = builder_at cs i

-- the tree of the list builder or of the struct builder
abbrev pub as_list : AnyMutableArray → Option BuilderTree
as_list (List b) = Some b
as_list b = None

abbrev pub as_struct : AnyMutableArray → Option BuilderTree
as_struct (Struct b) = Some b
as_struct b = None
