use Rattle.nest_memory.specs.TypeOf.{type_of}
use Rattle.nest_array.proofs.ChildTypes.{list-has_field}
use Rattle.nest_array.proofs.list.ListArray.get_child_field.Goals as goal

pub unreachable-requires : goal.unreachable-requires
unreachable-requires c = list-has_field (type_of c.args.data_type.now) c.requires (c.in-None.ensures c.requires)
