use Rattle.std.proofs.Common.{◌+◌, ◌*◌, take}
use Rattle.nest_any.specs.Trees.{trees_of}
use Rattle.nest_memory.specs.TypeOf.{field_list_of, type_of}
use Rattle.nest_model.specs.NullKinds.{fields_weight, type_weight}
use Rattle.json_read.specs.EmptyBuilders.{AreEmptyOf}
use Rattle.json_read.proofs.builders.+made.Given as goal

abbrev pub decreases-made : goal.decreases-made
decreases-made l = 3 * type_weight (type_of l.data_type.now) + 2

abbrev pub decreases-nested : goal.decreases-nested
decreases-nested l = 3 * type_weight (type_of l.inner.now) + 3

abbrev pub decreases-records : goal.decreases-records
decreases-records l = 3 * type_weight (type_of l.data_type.now) + 1

abbrev pub decreases-children : goal.decreases-children
decreases-children l = 3 * fields_weight (field_list_of l.fields.now)

abbrev pub invariant-children-loop-i : goal.invariant-children-loop-i
invariant-children-loop-i l = AreEmptyOf (field_list_of (take l.i l.fields)) (trees_of l.children.items)
