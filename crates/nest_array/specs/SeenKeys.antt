-- The layout of keys of any integer type.
use Rattle.nest_array.specs.declared.dictionary.keys.AnyKeys.{AnyKeys}
use Rattle.nest_array.specs.declared.dictionary.keys.AnyKeys.TheVariants.{Int8, Int16, Int32, Int64, UInt8, UInt16, UInt32, UInt64}
use Rattle.nest_model.specs.Layout.{Layout}

abbrev pub keys_layout : AnyKeys → Layout
keys_layout (Int8 a) = a
keys_layout (Int16 a) = a
keys_layout (Int32 a) = a
keys_layout (Int64 a) = a
keys_layout (UInt8 a) = a
keys_layout (UInt16 a) = a
keys_layout (UInt32 a) = a
keys_layout (UInt64 a) = a
