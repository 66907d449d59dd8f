use Rattle.std.proofs.Common.{◌≡◌, drop}
use Rattle.json.specs.Value.{members_view}
use Rattle.json_read.specs.ErrorPaths.{first_missing_path}
use Rattle.nest_memory.specs.TypeOf.{field_list_of}
use Rattle.json_read.proofs.error_paths.missing_path.Given as goal

abbrev pub invariant-loop-field : goal.invariant-loop-field
invariant-loop-field l =
    let ms = members_view l.members in
    first_missing_path (field_list_of l.field-items) ms ≡ first_missing_path (field_list_of (drop l.field-index l.field-items)) ms
