use Rattle.std.proofs.Common.{◌≡◌, drop}
use Rattle.nest_memory.specs.TypeOf.{field_list_of}
use Rattle.json_read.specs.RequiredFields.{is_any_required}
use Rattle.json_read.proofs.required_fields.+required.Given as goal

abbrev pub invariant-any_requires-loop-field : goal.invariant-any_requires-loop-field
invariant-any_requires-loop-field l = is_any_required (field_list_of l.field-items) ≡ is_any_required (field_list_of (drop l.field-index l.field-items))
