-- The layout of a flat builder of any kind, and the physical type of its kind.
use Rattle.nest_any.specs.declared.flat.AnyMutableFlat.{AnyMutableFlat}
use Rattle.nest_any.specs.declared.flat.AnyMutableFlat.TheVariants.{Boolean, Primitive, Binary, LargeBinary, Utf8, LargeUtf8, FixedSizeBinary}
use Rattle.nest_build.specs.BuiltKind.{built_kind}
use Rattle.nest_build.specs.FlatTree.{flat_tree}
use Rattle.nest_flat.specs.AnyMutablePrimitive.{built_layout}
use Rattle.nest_memory.specs.declared.datatypes.physical_type.PhysicalType.{PhysicalType}
use Rattle.nest_memory.specs.declared.datatypes.physical_type.PhysicalType.TheVariants as physical
use Rattle.nest_model.specs.BuilderTree.{BuilderTree}
use Rattle.nest_model.specs.Layout.{Layout}

abbrev pub flat_layout : AnyMutableFlat → Layout
flat_layout (Boolean b) = b
flat_layout (Primitive b) = built_layout b
flat_layout (Binary b) = b
flat_layout (LargeBinary b) = b
flat_layout (Utf8 b) = b
flat_layout (LargeUtf8 b) = b
flat_layout (FixedSizeBinary b) = b

-- its tree, which has one level
abbrev pub values_tree : AnyMutableFlat → BuilderTree
values_tree b = flat_tree (flat_layout b)

abbrev pub flat_kind : AnyMutableFlat → PhysicalType
flat_kind (Boolean b) = physical.Boolean
flat_kind (Primitive b) = physical.Primitive (built_kind b)
flat_kind (Binary b) = physical.Binary
flat_kind (LargeBinary b) = physical.LargeBinary
flat_kind (Utf8 b) = physical.Utf8
flat_kind (LargeUtf8 b) = physical.LargeUtf8
flat_kind (FixedSizeBinary b) = physical.FixedSizeBinary
