use Rattle.std.proofs.Common.{◌≡◌, drop}
use Rattle.json.specs.Value.{members_view}
use Rattle.json_read.specs.RequiredFields.{is_any_missing}
use Rattle.nest_memory.specs.TypeOf.{field_list_of}
use Rattle.json_read.proofs.required_fields.lacks_required.Given as goal

abbrev pub invariant-loop-field : goal.invariant-loop-field
invariant-loop-field l =
    let ms = members_view l.members in
    is_any_missing (field_list_of l.field-items) ms ≡ is_any_missing (field_list_of (drop l.field-index l.field-items)) ms
