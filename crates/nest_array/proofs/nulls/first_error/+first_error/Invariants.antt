use Rattle.std.proofs.Common.{◌≡◌, drop}
use Rattle.nest_memory.specs.TypeOf.{field_list_of}
use Rattle.nest_model.specs.Nulls.{fields_error}
use Rattle.nest_array.proofs.nulls.first_error.+first_error.Given as goal

abbrev pub invariant-each_error-loop-field : goal.invariant-each_error-loop-field
invariant-each_error-loop-field l = fields_error (field_list_of l.field-items) l.length l.fill ≡ fields_error (field_list_of (drop l.field-index l.field-items)) l.length l.fill
