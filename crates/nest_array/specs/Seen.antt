-- The layout of an array of any type.
use Rattle.std.specs.Prelude.{List as Seq, [], ◌∷◌}
use Rattle.nest_array.specs.declared.any.AnyArray.{AnyArray}
use Rattle.nest_array.specs.declared.any.AnyArray.TheVariants.{Null, Boolean, Primitive, Binary, LargeBinary, Utf8, LargeUtf8, FixedSizeBinary, FixedSizeList, List, LargeList, Struct, Map, Dictionary, Union}
use Rattle.nest_flat.specs.AnyPrimitive.{primitive_layout}
use Rattle.nest_model.specs.Layout.{Layout, Layouts, no_layouts, more_layouts}

abbrev pub layout_of : AnyArray → Layout
layout_of (Null a) = a
layout_of (Boolean a) = a
layout_of (Primitive a) = primitive_layout a
layout_of (Binary a) = a
layout_of (LargeBinary a) = a
layout_of (Utf8 a) = a
layout_of (LargeUtf8 a) = a
layout_of (FixedSizeBinary a) = a
layout_of (FixedSizeList a) = a
layout_of (List a) = a
layout_of (LargeList a) = a
layout_of (Struct a) = a
layout_of (Map a) = a
layout_of (Union a) = a
layout_of (Dictionary a) = a

abbrev pub layouts_of : Seq AnyArray → Layouts
layouts_of [] = no_layouts
layouts_of (a ∷ as_) = more_layouts (layout_of a) (layouts_of as_)
