use Rattle.std.proofs.Common.{◌≡◌, drop}
use Rattle.nest_memory.specs.TypeOf.{field_list_of}
use Rattle.json_read.specs.UnsupportedTypes.{unsupported_fields}
use Rattle.json_read.proofs.unsupported.+unsupported.Given as goal

abbrev pub invariant-check_fields-loop-field : goal.invariant-check_fields-loop-field
invariant-check_fields-loop-field l = unsupported_fields (field_list_of l.field-items) ≡ unsupported_fields (field_list_of (drop l.field-index l.field-items))
