-- The value of a Rust Leaf.
use Rattle.std.specs.Option.{option_map}
use Rattle.nest_memory.specs.Physical.{integer_tree}
use Rattle.nest_memory.specs.TypeTree as types
use Rattle.nest_memory.specs.TypeTree.{TypeTree}
use Rattle.nest_memory.specs.Floats.{spec_float_type}
use Rattle.ipc_schema.specs.StoredTypes.{spec_binary_view, spec_utf8_view, spec_decimal32, spec_decimal64}
use Rattle.ipc_schema.specs.declared.leaf_types.Leaf.{Leaf}
use Rattle.ipc_schema.specs.declared.leaf_types.Leaf.TheVariants as leaves

abbrev pub leaf_tree : Leaf → TypeTree
leaf_tree leaves.Null = types.null
leaf_tree leaves.Boolean = types.boolean
leaf_tree (leaves.Integer integer) = integer_tree integer
leaf_tree (leaves.Float precision) = spec_float_type precision
leaf_tree (leaves.Decimal32 digits after) = spec_decimal32 digits after
leaf_tree (leaves.Decimal64 digits after) = spec_decimal64 digits after
leaf_tree (leaves.Decimal digits after) = types.decimal digits after
leaf_tree (leaves.Decimal256 digits after) = types.decimal256 digits after
leaf_tree leaves.Date32 = types.date32
leaf_tree leaves.Date64 = types.date64
leaf_tree (leaves.Time32 unit) = types.time32 unit
leaf_tree (leaves.Time64 unit) = types.time64 unit
leaf_tree (leaves.Timestamp unit zone) = types.timestamp unit (option_map (λ z. z.now) zone)
leaf_tree (leaves.Duration unit) = types.duration unit
leaf_tree (leaves.Interval unit) = types.interval unit
leaf_tree leaves.Binary = types.binary
leaf_tree leaves.LargeBinary = types.large_binary
leaf_tree (leaves.FixedSizeBinary size) = types.fixed_size_binary size
leaf_tree leaves.Utf8 = types.utf8
leaf_tree leaves.LargeUtf8 = types.large_utf8
leaf_tree leaves.BinaryView = spec_binary_view
leaf_tree leaves.Utf8View = spec_utf8_view
