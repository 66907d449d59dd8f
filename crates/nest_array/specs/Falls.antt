-- Size bounds of arrays: children are smaller than their parents.
use Rattle.std.specs.Prelude.{◌+◌, ◌≤◌, List as Seq, [], ◌∷◌}
use Rattle.std.proofs.Common.{arith}
use denote.Param.Weighed.{most}
use Rattle.nest_array.specs.declared.any.AnyArray.{AnyArray}
use Rattle.nest_array.specs.declared.any.AnyArray.TheVariants.{Null, Boolean, Primitive, Binary, LargeBinary, Utf8, LargeUtf8, FixedSizeBinary, FixedSizeList, List, LargeList, Struct, Map, Dictionary, Union}
use Rattle.nest_array.specs.declared.dictionary.DictionaryArray.TheDeep.{deep-AnyArray}
use Rattle.nest_model.specs.Layout.{weight, weight_all}
use Rattle.nest_array.specs.Seen.{layout_of, layouts_of}

pub deep-size : (a : AnyArray) → deep-AnyArray a ≤ weight (layout_of a) + 1
deep-size (Null a) = omega arith
deep-size (Boolean a) = omega arith
deep-size (Primitive a) = omega arith
deep-size (Binary a) = omega arith
deep-size (LargeBinary a) = omega arith
deep-size (Utf8 a) = omega arith
deep-size (LargeUtf8 a) = omega arith
deep-size (FixedSizeBinary a) = omega arith
deep-size (FixedSizeList a) = omega arith
deep-size (List a) = omega arith
deep-size (LargeList a) = omega arith
deep-size (Struct a) = omega arith
deep-size (Map a) = omega arith
deep-size (Union a) = omega arith
deep-size (Dictionary a) = omega arith

pub most-size : (as_ : Seq AnyArray) → most deep-AnyArray as_ ≤ weight_all (layouts_of as_)
most-size [] = omega arith
most-size (a ∷ as_) = omega (arith, deep-size a, most-size as_)
