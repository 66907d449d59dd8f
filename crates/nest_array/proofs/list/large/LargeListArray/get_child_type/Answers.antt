use Rattle.std.proofs.Common.{Some, ap, sym, ◌∙◌}
use Rattle.nest_memory.specs.TypeOf.{type_of, field_of}
use Rattle.nest_array.proofs.ChildTypes.{field-item}
use Rattle.nest_array.proofs.list.large.LargeListArray.get_child_type.Goals as goal

pub returns : goal.returns
returns c = field-item (type_of c.args.data_type.now) (field_of c.get_child_field.result.now) c.get_child_field.ensures ∙ ap Some (sym c.data_type.ensures)
