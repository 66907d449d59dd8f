use Rattle.std.proofs.Common.{◌≡◌, ◌+◌, ◌*◌, ◌≤◌, ℕ, List, ◌++◌, false}
use Rattle.std.specs.Fmt.{HasWritten, IsPlainFormatter}
use Rattle.nest_model.specs.Layout.{field_types}
use Rattle.nest_array.specs.ScalarParts.{slots_in, types_in}
use Rattle.nest_memory.specs.TypeOf.{field_list_of}
use Rattle.nest_model.specs.Slot.{node_count, count_within}
use Rattle.json_write.specs.JsonText.{json_members}
use Rattle.json_write.proofs.scalar.+scalar_json.Given as goal

abbrev pub decreases-write_scalar : goal.decreases-write_scalar
decreases-write_scalar g l = 2 * node_count l.scalar.now.slot + 1

abbrev pub decreases-write_scalar_members : goal.decreases-write_scalar_members
decreases-write_scalar_members g l = 2 * count_within (slots_in l.values.now) + 2

abbrev pub invariant-write_scalar_members-loop-field : goal.invariant-write_scalar_members-loop-field
invariant-write_scalar_members-loop-field g l =
    (field_types (field_list_of l.field-iterator.a.rest.now) ≡ types_in l.field-iterator.b.rest.now)
    × (count_within (slots_in l.field-iterator.b.rest.now) ≤ count_within (slots_in l.values))
    × (IsPlainFormatter l.initial.f → (done : List ℕ) × HasWritten g.W.Write.write_str_gives l.initial.f done l.f
    × (done ++ json_members (field_list_of l.field-iterator.a.rest.now) l.after (slots_in l.field-iterator.b.rest.now) ≡ json_members (field_list_of l.fields) false (slots_in l.values)))
