-- Kinds of `AnyArray`.
use Rattle.std.specs.Prelude.{Bool, true, false}
use Rattle.nest_array.specs.declared.any.AnyArray.{AnyArray}
use Rattle.nest_array.specs.declared.any.AnyArray.TheVariants as any

-- arrays without children
abbrev pub is_flat_array : AnyArray → Bool
is_flat_array (any.Null a) = true
is_flat_array (any.Boolean a) = true
is_flat_array (any.Primitive a) = true
is_flat_array (any.FixedSizeBinary a) = true
is_flat_array (any.Binary a) = true
is_flat_array (any.LargeBinary a) = true
is_flat_array (any.Utf8 a) = true
is_flat_array (any.LargeUtf8 a) = true
is_flat_array (any.Dictionary a) = true
is_flat_array a = false

-- arrays that are not dictionary-encoded
abbrev pub is_not_dictionary_array : AnyArray → Bool
is_not_dictionary_array (any.Dictionary a) = false
is_not_dictionary_array a = true

abbrev pub is_null_array : AnyArray → Bool
is_null_array (any.Null a) = true
is_null_array a = false
