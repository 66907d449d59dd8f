use Rattle.std.proofs.Common.{◌≡◌, drop}
use Rattle.json.specs.Value.{items_view, members_view}
use Rattle.json_read.specs.RequiredFields.{any_item, any_member, is_unexpected_member, is_unexpected_null}
use Rattle.nest_memory.specs.TypeOf.{field_list_of, field_of}
use Rattle.json_read.proofs.required_fields.+nulls.Given as goal

abbrev pub invariant-item_has_null-loop-item : goal.invariant-item_has_null-loop-item
invariant-item_has_null-loop-item l =
    let p = is_unexpected_null (field_of l.field) in
    any_item p (items_view l.items) ≡ any_item p (items_view (drop l.item-index l.items))

abbrev pub invariant-member_has_null-loop-member : goal.invariant-member_has_null-loop-member
invariant-member_has_null-loop-member l =
    let p = is_unexpected_member (field_list_of l.fields.items) in
    any_member p (members_view l.members) ≡ any_member p (members_view (drop l.member-index l.members))
