use Rattle.std.proofs.Common.{refl}
use Rattle.nest_memory.specs.TypeOf.{type_of}
use Rattle.nest_array.proofs.ChildTypes.{list-has_field}
use Rattle.nest_array.proofs.list.ListArray.try_get_child.Goals as goal

pub returns-in-None : goal.returns-in-None
returns-in-None c = (refl, λ h. list-has_field (type_of c.args.data_type.now) h (c.in-None.ensures h))
