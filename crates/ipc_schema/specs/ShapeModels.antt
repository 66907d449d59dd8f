-- The value of a Rust Shape.
use Rattle.std.specs.Option.{option_map}
use Rattle.ipc_schema.specs.declared.type_shapes.Shape as declared
use Rattle.ipc_schema.specs.declared.type_shapes.Shape.TheVariants as shapes
use Rattle.std.specs.Prelude.{Result}
use Rattle.std.specs.Prelude as lists
use Rattle.std.specs.Global.{Vec}
use Rattle.nest_memory.specs.TypeOf.{field_of}
use Rattle.nest_memory.specs.TypeTree.{TypeTree}
use Rattle.nest_memory.specs.declared.datatypes.field.Field.{Field}
use Rattle.ipc_flatbuf.specs.declared.error.IpcReadError.{IpcReadError}
use Rattle.ipc_schema.specs.Types.{spec_with_children, Shape, leaf, list, large_list, fixed_size_list, struct, map, union}
use Rattle.ipc_schema.specs.LeafModels.{leaf_tree}

abbrev pub shape_tree : declared.Shape → Shape
shape_tree (shapes.Leaf type) = leaf (leaf_tree type)
shape_tree shapes.List = list
shape_tree shapes.LargeList = large_list
shape_tree (shapes.FixedSizeList size) = fixed_size_list size
shape_tree shapes.Struct = struct
shape_tree (shapes.Map sorted) = map sorted
shape_tree (shapes.Union ids mode) = union (option_map (λ v. v.items) ids) mode

-- the type of a Rust Shape with its children
abbrev pub completed_type : declared.Shape → Vec Field → Result TypeTree IpcReadError
completed_type shape fields = spec_with_children (shape_tree shape) (lists.map field_of fields.items)
