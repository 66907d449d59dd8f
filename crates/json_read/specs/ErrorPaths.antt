-- The field that an error is in, by its path: the names of the fields from the row down, joined by dots.
use Rattle.std.specs.Prelude.{◌≡◌, Bool, true, false, not, bytes_eq, List, [], ◌∷◌, ◌++◌, map, Option, Some, None, is_some, option_map, String, string_bytes, if◌then◌else◌}
use Rattle.std.specs.Borrow.{Bor}
use Rattle.std.specs.List.{list_any}
use Rattle.std.specs.declared.alloc.Global.{Global}
use Rattle.json.specs.Json as json
use Rattle.json.specs.Json.{Json, Items, no_items, item, Members, no_members, member}
use Rattle.json.specs.declared.value.Value.{Value}
use Rattle.json_read.specs.JsonSlots.{value_error}
use Rattle.json_read.specs.RequiredFields.{is_missing, is_unexpected_null}
use Rattle.nest_memory.specs.TypeTree as types
use Rattle.nest_memory.specs.TypeTree.{Letters, TypeTree, FieldTree, field, FieldTrees, no_fields, more_fields, field_type}
use Rattle.json_write.specs.JsonText.{field_name}

-- a string that is the path, or none
abbrev pub IsPath : Option Letters → Option (String Global) → Type 0
IsPath p path = option_map string_bytes path ≡ p

-- the path of a field, or of a field in it
abbrev pub spec_path_below : Letters → Option Letters → Letters
spec_path_below name None = name
spec_path_below name (Some path) = name ++ 46 ∷ path

abbrev pub first_path : Option Letters → Option Letters → Option Letters
first_path (Some path) rest = Some path
first_path None rest = rest

-- a value of the field has an error, or if `nulls` a null in a field that is not nullable
abbrev pub spec_is_wrong : Bool → FieldTree → Json → Bool
spec_is_wrong true f j = is_unexpected_null f j
spec_is_wrong false f j = is_some (value_error (field_type f) j)

abbrev pub first_item_path : (Json → Option Letters) → Items → Option Letters
first_item_path p no_items = None
first_item_path p (item j js) = first_path (p j) (first_item_path p js)

-- a member with the name of one before is an error itself
abbrev pub path_after : (Letters → Json → Option Letters) → List Letters → Letters → Json → Option Letters
path_after p before k j = if list_any (λ q. bytes_eq q k) before then Some k else p k j

abbrev pub first_member_path : (Letters → Json → Option Letters) → List Letters → Members → Option Letters
first_member_path p before no_members = None
first_member_path p before (member k j ms) = first_path (path_after p before k j) (first_member_path p (before ++ k ∷ []) ms)

abbrev pub first_missing_path : FieldTrees → Members → Option Letters
first_missing_path no_fields ms = None
first_missing_path (more_fields f fs) ms = if is_missing f ms then Some (field_name f) else first_missing_path fs ms

abbrev pub path_in_array : (Json → Option Letters) → Json → Option Letters
path_in_array p (json.array js) = first_item_path p js
path_in_array p j = None

abbrev pub path_in_object : (Letters → Json → Option Letters) → FieldTrees → Json → Option Letters
path_in_object p fs (json.object ms) = first_path (first_member_path p [] ms) (first_missing_path fs ms)
path_in_object p fs j = None

abbrev mutual
  -- the path from a wrong value down to its first error; none if the error is the value itself
  pub spec_error_path : Bool → TypeTree → Json → Option Letters
  spec_error_path nulls (types.list f) j = path_in_array (spec_field_path nulls f) j
  spec_error_path nulls (types.large_list f) j = path_in_array (spec_field_path nulls f) j
  spec_error_path nulls (types.fixed_size_list f s) j = path_in_array (spec_field_path nulls f) j
  spec_error_path nulls (types.struct fs) j = path_in_object (spec_member_path nulls fs) fs j
  spec_error_path nulls (types.extension n t m) j = spec_error_path nulls t j
  spec_error_path nulls t j = None

  -- from a field on, if its value is wrong
  pub spec_field_path : Bool → FieldTree → Json → Option Letters
  spec_field_path nulls (field n t b es) j = if spec_is_wrong nulls (field n t b es) j then Some (spec_path_below n (spec_error_path nulls t j)) else None

  -- from the first field of that name on; an unknown name is its own path
  pub spec_member_path : Bool → FieldTrees → Letters → Json → Option Letters
  spec_member_path nulls no_fields k j = Some k
  spec_member_path nulls (more_fields f fs) k j = if bytes_eq (field_name f) k then spec_field_path nulls f j else spec_member_path nulls fs k j

-- the names of members of JSON that was read
abbrev pub names_of : {A : Type 0} → List (Bor Letters × Value A) → List Letters
names_of ms = map (λ m. m.0.now) ms

-- the path of the first error of a row; of a null in a field that is not nullable only if there is no other error
abbrev pub spec_row_path : TypeTree → Json → Option Letters
spec_row_path t j = spec_error_path (not (is_some (value_error t j))) t j
