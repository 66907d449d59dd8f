-- Children are smaller than their builder.
use Rattle.std.specs.Prelude.{◌+◌, ◌≤◌, List as Seq, [], ◌∷◌}
use Rattle.std.proofs.Common.{arith}
use denote.Param.Weighed.{most}
use Rattle.nest_any.specs.declared.any.AnyMutableArray.{AnyMutableArray}
use Rattle.nest_any.specs.declared.any.AnyMutableArray.TheVariants.{Null, Flat, Dictionary, List, Struct}
use Rattle.nest_any.specs.declared.rows.TypedRows.{TypedRows}
use Rattle.nest_any.specs.declared.rows.TypedRows.TheVariants as any
use Rattle.nest_any.specs.declared.lists.ListBuilder.TheDeep.{deep-AnyMutableArray}
use Rattle.nest_any.specs.BuilderCode.{weight, weight_all}
use Rattle.nest_any.specs.Trees.{tree_of, trees_of}
use Rattle.nest_any.specs.TypedRows.{lists_over}

pub deep-size : (b : AnyMutableArray) → deep-AnyMutableArray b ≤ weight (tree_of b) + 1
deep-size (Null b) = omega arith
deep-size (Flat b) = omega arith
deep-size (Dictionary b) = omega arith
deep-size (List b) = omega arith
deep-size (Struct b) = omega arith

pub most-size : (bs : Seq AnyMutableArray) → most deep-AnyMutableArray bs ≤ weight_all (trees_of bs)
most-size [] = omega arith
most-size (b ∷ bs) = omega (arith, deep-size b, most-size bs)

pub lists-fall : (r : TypedRows) (b : AnyMutableArray) → deep-AnyMutableArray b ≤ weight (lists_over r (tree_of b))
lists-fall (any.List t rows) b = omega (arith, deep-size b)
lists-fall (any.LargeList t rows) b = omega (arith, deep-size b)
lists-fall (any.FixedSizeList t bits) b = omega (arith, deep-size b)
