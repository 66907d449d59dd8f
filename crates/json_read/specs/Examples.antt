-- The struct types of the examples: an integer and a list of strings; the same with fields that are not nullable.
use Rattle.std.specs.Prelude.{[], ◌∷◌, pos, true, false, codes}
use Rattle.json.specs.Json.{Json, array, item, member, no_items, no_members, number, object, string}
use Rattle.nest_memory.specs.TypeTree as types
use Rattle.nest_memory.specs.TypeTree.{TypeTree, field, no_fields, more_fields}
use Rattle.nest_model.specs.Slot as slots
use Rattle.nest_model.specs.Slot.{Slot, more_slots, no_slots}

abbrev pub struct_type : TypeTree
struct_type = types.struct (more_fields (field (codes "id") types.int64 true []) (more_fields (field (codes "tags") (types.list (field (codes "item") types.utf8 true [])) true []) no_fields))

-- {"tags":["a"],"id":1}, and the struct slot it represents
abbrev pub tags_and_id : Json
tags_and_id = object (member (codes "tags") (array (item (string (codes "a")) no_items)) (member (codes "id") (number (codes "1")) no_members))

abbrev pub id_and_tags : Slot
id_and_tags = slots.record_of (more_slots (slots.number (pos 1 ∷ [])) (more_slots (slots.list (more_slots (slots.utf8 (codes "a")) no_slots)) no_slots))

-- `id` and the items of `tags` are not nullable
abbrev pub required_type : TypeTree
required_type = types.struct (more_fields (field (codes "id") types.int64 false []) (more_fields (field (codes "tags") (types.list (field (codes "item") types.utf8 false [])) true []) no_fields))

abbrev pub id_then_tags : Json → Json → Json
id_then_tags x y = object (member (codes "id") x (member (codes "tags") y no_members))

abbrev pub tags_then_id : Json → Json → Json
tags_then_id x y = object (member (codes "tags") x (member (codes "id") y no_members))
