-- The dictionary ids that are written: 0, 1, 2 and so on, in pre-order; the id of a field precedes those of its children.
use Rattle.std.specs.Prelude.{ℕ, zero, suc, ◌+◌, ℤ, pos, Bool, false, ◌||◌, List, [], ◌∷◌, ◌++◌, Option, Some, None, is_some}
use Rattle.std.specs.List.{list_any}
use Rattle.nest_memory.specs.TypeTree as types
use Rattle.nest_memory.specs.TypeTree.{TypeTree, FieldTree, field_type, logical_type}
use Rattle.nest_memory.specs.declared.datatypes.IntegerType.{IntegerType}
use Rattle.ipc_schema.specs.declared.dictionaries.Encoding.{Encoding}
use Rattle.ipc_schema.specs.Dictionaries.{ValueTypeModel, DictionaryTypesModel}
use Rattle.ipc_schema.specs.Types.{spec_children_of}
use Rattle.ipc_schema.specs.Extensions.{spec_storage_type, spec_table_type}

-- ---- one field

-- the type of the keys and isOrdered, where a type is dictionary-encoded
abbrev pub index_type_of : TypeTree → Option (IntegerType × Bool)
index_type_of (types.dictionary key values ordered) = Some (key, ordered)
index_type_of type = None

-- the encoding of a field with these keys and this id
abbrev pub encoding_with_id : ℕ → Option (IntegerType × Bool) → Option Encoding
encoding_with_id id None = None
encoding_with_id id (Some keys) = Some (record { id = pos id; key = keys.0; is_ordered = keys.1 })

abbrev pub spec_encoding_of : ℕ → TypeTree → Option Encoding
spec_encoding_of id type = encoding_with_id id (index_type_of (spec_storage_type type))

-- the next id after that of a field
abbrev pub next_after : {A : Type 0} → Option A → ℕ → ℕ
next_after None next = next
next_after (Some x) next = suc next

abbrev pub next_after_own : TypeTree → ℕ → ℕ
next_after_own type next = next_after (index_type_of (spec_storage_type type)) next

-- ---- lists of fields

-- the sum of a count over fields
unfoldable pub total : (FieldTree → ℕ) → List FieldTree → ℕ
total count [] = 0
total count (f ∷ fs) = count f + total count fs

-- the result of each field with the next id, where each field has count ids
unfoldable pub each_from : {A : Type 0} → (FieldTree → ℕ) → (ℕ → FieldTree → A) → ℕ → List FieldTree → List A
each_from count make next [] = []
each_from count make next (f ∷ fs) = make next f ∷ each_from count make (next + count f) fs

-- ---- ids

-- the number of dictionaries of a field and its descendants, to a depth
unfoldable pub count_dictionaries : ℕ → FieldTree → ℕ
count_dictionaries zero f = 0
count_dictionaries (suc depth) f = next_after_own (field_type f) (total (count_dictionaries depth) (spec_children_of (spec_table_type (field_type f))))

abbrev pub count_all : List FieldTree → ℕ
count_all fields = total (count_dictionaries 64) fields

-- whether there is one
unfoldable pub spec_has_dictionary : ℕ → FieldTree → Bool
spec_has_dictionary zero f = false
spec_has_dictionary (suc depth) f = is_some (index_type_of (spec_storage_type (field_type f))) || list_any (spec_has_dictionary depth) (spec_children_of (spec_table_type (field_type f)))

abbrev pub have_dictionary : List FieldTree → Bool
have_dictionary fields = list_any (spec_has_dictionary 64) fields

-- count consecutive ids
unfoldable pub ids_from : ℕ → ℕ → List ℤ
ids_from next zero = []
ids_from next (suc n) = pos next ∷ ids_from (suc next) n

-- ---- their value types

-- the value type of the id of a field, in which count ids are nested
abbrev pub own_value_types : Option (IntegerType × Bool) → ℕ → TypeTree → ℕ → List (ℤ × ValueTypeModel)
own_value_types None id values inner = []
own_value_types (Some keys) id values inner = (pos id, record { values = logical_type values; inside = ids_from (suc id) inner }) ∷ []

unfoldable pub flattened : {A : Type 0} → List (List A) → List A
flattened [] = []
flattened (xs ∷ xss) = xs ++ flattened xss

-- the value types of the ids of a field and its descendants, in pre-order
unfoldable pub value_types_from : ℕ → ℕ → FieldTree → List (ℤ × ValueTypeModel)
value_types_from zero next f = []
value_types_from (suc depth) next f =
    own_value_types (index_type_of (spec_storage_type (field_type f))) next (spec_table_type (field_type f)) (total (count_dictionaries depth) (spec_children_of (spec_table_type (field_type f))))
    ++ flattened (each_from (count_dictionaries depth) (value_types_from depth) (next_after_own (field_type f) next) (spec_children_of (spec_table_type (field_type f))))

-- the dictionaries after count more with these value types
abbrev pub with_ids_from : ℕ → ℕ → List (ℤ × ValueTypeModel) → DictionaryTypesModel → DictionaryTypesModel
with_ids_from next n named seen = record { ids = seen.ids ++ ids_from next n; named = seen.named ++ named }

abbrev pub types_after : ℕ → ℕ → FieldTree → DictionaryTypesModel → DictionaryTypesModel
types_after depth next f seen = with_ids_from next (count_dictionaries depth f) (value_types_from depth next f) seen

abbrev pub types_after_all : ℕ → ℕ → List FieldTree → DictionaryTypesModel → DictionaryTypesModel
types_after_all depth next fs seen = with_ids_from next (total (count_dictionaries depth) fs) (flattened (each_from (count_dictionaries depth) (value_types_from depth) next fs)) seen
