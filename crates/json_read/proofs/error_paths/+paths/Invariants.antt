use Rattle.std.proofs.Common.{◌≡◌, [], drop, take}
use Rattle.json.specs.Value.{items_view, members_view}
use Rattle.json_read.specs.ErrorPaths.{first_item_path, first_member_path, names_of, spec_field_path, spec_member_path}
use Rattle.nest_memory.specs.TypeOf.{field_list_of, field_of}
use Rattle.json_read.proofs.error_paths.+paths.Given as goal

abbrev pub invariant-items_path-loop-item : goal.invariant-items_path-loop-item
invariant-items_path-loop-item l =
    let p = spec_field_path l.nulls (field_of l.field) in
    first_item_path p (items_view l.items) ≡ first_item_path p (items_view (drop l.item-index l.items))

abbrev pub invariant-members_path-loop-i : goal.invariant-members_path-loop-i
invariant-members_path-loop-i l =
    let p = spec_member_path l.nulls (field_list_of l.fields.items) in
    first_member_path p [] (members_view l.members) ≡ first_member_path p (names_of (take l.i l.members)) (members_view (drop l.i l.members))
