use Rattle.std.proofs.Common.{◌↔◌, drop}
use Rattle.nest_memory.specs.TypeOf.{field_list_of}
use Rattle.nest_model.specs.Fits.{EachType}
use Rattle.nest_array.specs.Seen.{layouts_of}
use Rattle.nest_array.proofs.struct_.have_types.Given as goal

abbrev pub invariant-loop-i : goal.invariant-loop-i
invariant-loop-i l = EachType (field_list_of l.fields) (layouts_of l.children) ↔ EachType (field_list_of (drop l.i l.fields)) (layouts_of (drop l.i l.children))
