use Rattle.std.proofs.Common.{◌≡◌, ◌+◌, ◌*◌, ◌≤◌, ℕ, List, ◌++◌, false}
use Rattle.std.specs.Fmt.{HasWritten, IsPlainFormatter}
use Rattle.nest_array.specs.Seen.{layout_of, layouts_of}
use Rattle.nest_memory.specs.TypeOf.{field_list_of}
use Rattle.nest_model.specs.Fits.{EachCovers, EachType}
use Rattle.nest_model.specs.Layout.{layout_type, weight, weight_all}
use Rattle.nest_model.specs.Meaning.{each, run, slot}
use Rattle.nest_model.specs.Slot.{seal}
use Rattle.json_write.specs.JsonText.{json_items, json_members}
use Rattle.json_write.proofs.nested.+show.Given as goal

abbrev pub invariant-write_each_item-loop-k : goal.invariant-write_each_item-loop-k
invariant-write_each_item-loop-k g l =
    IsPlainFormatter l.initial.f
    → HasWritten g.W.Write.write_str_gives l.initial.f (json_items (layout_type (layout_of l.array)) false (seal (run (slot (layout_of l.array)) l.start l.k))) l.f

abbrev pub invariant-write_members-loop-field : goal.invariant-write_members-loop-field
invariant-write_members-loop-field g l =
    EachType (field_list_of l.field-iterator.a.rest.now) (layouts_of l.field-iterator.b.rest.now)
    × EachCovers (layouts_of l.field-iterator.b.rest.now) (l.i + 1)
    × (weight_all (layouts_of l.field-iterator.b.rest.now) ≤ weight_all (layouts_of l.children))
    × (IsPlainFormatter l.initial.f → (done : List ℕ) × HasWritten g.W.Write.write_str_gives l.initial.f done l.f
    × (done ++ json_members (field_list_of l.field-iterator.a.rest.now) l.after (each (layouts_of l.field-iterator.b.rest.now) l.i) ≡ json_members (field_list_of l.fields) false (each (layouts_of l.children) l.i)))

abbrev pub decreases-write_slot : goal.decreases-write_slot
decreases-write_slot g l = 8 * weight (layout_of l.array.now) + 1

abbrev pub decreases-write_array : goal.decreases-write_array
decreases-write_array g l = 8 * weight (layout_of l.array.now) + 4

abbrev pub decreases-write_items : goal.decreases-write_items
decreases-write_items g l = 8 * weight (layout_of l.array.now) + 3

abbrev pub decreases-write_each_item : goal.decreases-write_each_item
decreases-write_each_item g l = 8 * weight (layout_of l.array.now) + 2

abbrev pub decreases-write_list_slot : goal.decreases-write_list_slot
decreases-write_list_slot g l = 8 * weight (layout_of l.items.now) + 5

abbrev pub decreases-write_list : goal.decreases-write_list
decreases-write_list g l = 8 * weight l.array.now

abbrev pub decreases-write_large_list : goal.decreases-write_large_list
decreases-write_large_list g l = 8 * weight l.array.now

abbrev pub decreases-write_fixed_size_list : goal.decreases-write_fixed_size_list
decreases-write_fixed_size_list g l = 8 * weight l.array.now

abbrev pub decreases-write_map : goal.decreases-write_map
decreases-write_map g l = 8 * weight l.array.now

abbrev pub decreases-write_struct : goal.decreases-write_struct
decreases-write_struct g l = 8 * weight l.array.now

abbrev pub decreases-write_members : goal.decreases-write_members
decreases-write_members g l = 8 * weight_all (layouts_of l.children.now) + 2

abbrev pub decreases-write_union : goal.decreases-write_union
decreases-write_union g l = 8 * weight l.array.now

abbrev pub decreases-write_dictionary : goal.decreases-write_dictionary
decreases-write_dictionary g l = 8 * weight l.array.now
