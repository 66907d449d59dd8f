use Rattle.std.proofs.Common.{◌≡◌, ◌+◌, ◌*◌, List, [], ◌++◌, drop, length, map}
use Rattle.json.specs.Tree.{json_tokens, items_tokens, members_tokens}
use Rattle.json.specs.Value.{value_view, items_view, members_view}
use Rattle.nest_any.specs.Refusals.{struct_children}
use Rattle.nest_any.specs.Trees.{tree_of}
use Rattle.json_read.specs.StructMembers.{MembersAddedTo, over_children}
use Rattle.json_read.specs.JsonSlots.{slot_of, items_error, member_slots, members_error}
use Rattle.nest_memory.specs.TypeTree.{Letters, fields_of}
use Rattle.nest_model.specs.BuilderLevels.{own_slots}
use Rattle.nest_model.specs.BuilderTree.{builder_type}
use Rattle.nest_model.specs.BuilderComplete.{IsComplete}
use Rattle.nest_model.specs.Slot.{Slot}
use Rattle.json_read.proofs.push.+push.Given as goal

abbrev pub decreases-push_value : goal.decreases-push_value
decreases-push_value l = 4 * length (json_tokens (value_view l.value.now))

abbrev pub decreases-push_list : goal.decreases-push_list
decreases-push_list l = 4 * length (items_tokens (items_view l.items.now)) + 2

abbrev pub decreases-push_items : goal.decreases-push_items
decreases-push_items l = 4 * length (items_tokens (items_view l.items.now)) + 1

abbrev pub decreases-push_struct : goal.decreases-push_struct
decreases-push_struct l = 4 * length (members_tokens (members_view l.members.now)) + 3

abbrev pub decreases-push_members : goal.decreases-push_members
decreases-push_members l = 4 * length (members_tokens (members_view l.members.now)) + 2

abbrev pub decreases-push_member : goal.decreases-push_member
decreases-push_member l = 4 * length (json_tokens (value_view l.value.now)) + 1

abbrev pub invariant-push_items-loop-item : goal.invariant-push_items-loop-item
invariant-push_items-loop-item l =
    let t = builder_type (tree_of l.fn.child) in
    let rest = drop l.item-index l.items in
    record {
      complete : IsComplete (tree_of l.child);
      same_type : builder_type (tree_of l.child) ≡ t;
      slots : own_slots (tree_of l.child) ++ map (λ v. slot_of t (value_view v)) rest ≡ own_slots (tree_of l.fn.child) ++ map (λ v. slot_of t (value_view v)) l.items;
      faults : items_error t (items_view l.items) ≡ items_error t (items_view rest);
    }

abbrev pub invariant-push_members-loop-member : goal.invariant-push_members-loop-member
invariant-push_members-loop-member l =
    let fs = fields_of (builder_type l.fn.records) in
    let all = members_view l.members in
    let rest = members_view (drop l.member-index l.members) in
    (done : List (Letters × Slot)) × record {
      slots : done ++ member_slots fs rest ≡ member_slots fs all;
      fed : MembersAddedTo fs done (struct_children l.fn.records) (struct_children l.records);
      set : l.records ≡ over_children l.fn.records (struct_children l.records);
      faults : members_error fs [] all ≡ members_error fs (map (λ p. p.0) done) rest;
    }
