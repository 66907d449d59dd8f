-- Lists of structs of a number and a dictionary.
use Rattle.std.specs.Prelude.{pos, true, false, None, Some, List, [], ◌∷◌, codes}
use Rattle.nest_memory.specs.TypeTree as types
use Rattle.nest_memory.specs.TypeTree.{TypeTree, FieldTrees, field, more_fields, no_fields}
use Rattle.nest_memory.specs.declared.datatypes.IntegerType.TheVariants as integers
use Rattle.nest_memory.specs.declared.datatypes.physical_type.PrimitiveType.TheVariants as primitives
use Rattle.nest_model.specs.Layout as layouts
use Rattle.nest_model.specs.Layout.{Layout, Layouts}
use Rattle.nest_model.specs.Slot as slots
use Rattle.nest_model.specs.Slot.{Slot}
use Rattle.guide.specs.Columns.{list_slot, number, numbers_layout, struct_slot, strings_layout}

-- a dictionary of strings with 32-bit keys
abbrev pub tag_type : TypeTree
tag_type = types.dictionary integers.Int32 types.utf8 false

-- the keys 3, null, 0, 3; the key under the null is 0
abbrev pub keys_layout : Layout
keys_layout = layouts.primitive primitives.Int32 types.int32 ((pos 3 ∷ []) ∷ (pos 0 ∷ []) ∷ (pos 0 ∷ []) ∷ (pos 3 ∷ []) ∷ []) (Some (true ∷ false ∷ true ∷ true ∷ []))

-- the layout of the dictionary array
abbrev pub dictionary_layout : Layout
dictionary_layout = layouts.dictionary tag_type keys_layout strings_layout

abbrev pub tagged_fields : FieldTrees
tagged_fields = more_fields (field (codes "number") types.int64 true []) (more_fields (field (codes "tag") tag_type true []) no_fields)

abbrev pub tagged_children : Layouts
tagged_children = layouts.more_layouts numbers_layout (layouts.more_layouts dictionary_layout layouts.no_layouts)

abbrev pub tagged_structs : Layout
tagged_structs = layouts.struct (types.struct tagged_fields) tagged_children None

abbrev pub tagged_list_type : TypeTree
tagged_list_type = types.list (field (codes "item") (types.struct tagged_fields) true [])

-- [{3, "ab"}, {4, "c"}]
abbrev pub last_tagged_list : Slot
last_tagged_list = list_slot (struct_slot (number 3 ∷ slots.utf8 (97 ∷ 98 ∷ []) ∷ []) ∷ struct_slot (number 4 ∷ slots.utf8 (99 ∷ []) ∷ []) ∷ [])

-- [{1, "c"}, {null, null}], and that list
abbrev pub two_tagged_lists : List Slot
two_tagged_lists = list_slot (struct_slot (number 1 ∷ slots.utf8 (99 ∷ []) ∷ []) ∷ struct_slot (slots.null ∷ slots.null ∷ []) ∷ []) ∷ last_tagged_list ∷ []

-- their layout
abbrev pub tagged_lists_layout : Layout
tagged_lists_layout = layouts.list false tagged_list_type (0 ∷ 2 ∷ 4 ∷ []) tagged_structs None
