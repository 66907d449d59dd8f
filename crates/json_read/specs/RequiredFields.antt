-- Fields that are not nullable (Schema.fbs, `Field.nullable`): none of their values is null. A field without a member is null.
use Rattle.std.specs.Prelude.{Bool, false, ◌&&◌, ◌||◌, not, bytes_eq, Option, if◌then◌else◌}
use Rattle.json.specs.Find.{is_null}
use Rattle.json.specs.Json as json
use Rattle.json.specs.Json.{Json, Items, no_items, item, Members, no_members, member}
use Rattle.json_read.specs.FlatValues.{error_unless}
use Rattle.json_read.specs.declared.value_error.ValueError.{ValueError}
use Rattle.json_read.specs.declared.value_error.ValueError.TheVariants.{UnexpectedNull}
use Rattle.nest_memory.specs.TypeTree as types
use Rattle.nest_memory.specs.TypeTree.{Letters, TypeTree, FieldTree, field, FieldTrees, no_fields, more_fields}
use Rattle.json_write.specs.JsonText.{field_name}

abbrev pub is_nullable : FieldTree → Bool
is_nullable (field n t nullable es) = nullable

abbrev mutual
  -- a field is not nullable, at any depth
  pub has_required_field : TypeTree → Bool
  has_required_field (types.list f) = is_required f
  has_required_field (types.large_list f) = is_required f
  has_required_field (types.fixed_size_list f s) = is_required f
  has_required_field (types.struct fs) = is_any_required fs
  has_required_field (types.extension n t m) = has_required_field t
  has_required_field t = false

  pub is_required : FieldTree → Bool
  is_required (field n t nullable es) = not nullable || has_required_field t

  pub is_any_required : FieldTrees → Bool
  is_any_required no_fields = false
  is_any_required (more_fields f fs) = is_required f || is_any_required fs

-- an item, or a member, is so
abbrev pub any_item : (Json → Bool) → Items → Bool
any_item p no_items = false
any_item p (item j js) = p j || any_item p js

abbrev pub any_member : (Letters → Json → Bool) → Members → Bool
any_member p no_members = false
any_member p (member k j ms) = p k j || any_member p ms

-- a member has that name
abbrev pub has_name : Letters → Members → Bool
has_name n no_members = false
has_name n (member k j ms) = bytes_eq k n || has_name n ms

-- a field that is not nullable has no member
abbrev pub is_missing : FieldTree → Members → Bool
is_missing f ms = not (is_nullable f) && not (has_name (field_name f) ms)

abbrev pub is_any_missing : FieldTrees → Members → Bool
is_any_missing no_fields ms = false
is_any_missing (more_fields f fs) ms = is_missing f ms || is_any_missing fs ms

-- an array with such an item; an object with such a member, or without one that it must have
abbrev pub array_has : (Json → Bool) → Json → Bool
array_has p (json.array js) = any_item p js
array_has p j = false

abbrev pub object_has : (Letters → Json → Bool) → FieldTrees → Json → Bool
object_has p fs (json.object ms) = any_member p ms || is_any_missing fs ms
object_has p fs j = false

abbrev mutual
  -- a value has a null in a field that is not nullable, at any depth
  pub has_unexpected_null : TypeTree → Json → Bool
  has_unexpected_null (types.list f) j = array_has (is_unexpected_null f) j
  has_unexpected_null (types.large_list f) j = array_has (is_unexpected_null f) j
  has_unexpected_null (types.fixed_size_list f s) j = array_has (is_unexpected_null f) j
  has_unexpected_null (types.struct fs) j = object_has (is_unexpected_member fs) fs j
  has_unexpected_null (types.extension n t m) j = has_unexpected_null t j
  has_unexpected_null t j = false

  -- a value of a field is one, or has one
  pub is_unexpected_null : FieldTree → Json → Bool
  is_unexpected_null (field n t nullable es) j = (not nullable && is_null j) || has_unexpected_null t j

  -- the same of the first field of that name
  pub is_unexpected_member : FieldTrees → Letters → Json → Bool
  is_unexpected_member no_fields k j = false
  is_unexpected_member (more_fields f fs) k j = if bytes_eq (field_name f) k then is_unexpected_null f j else is_unexpected_member fs k j

abbrev pub null_error : TypeTree → Json → Option ValueError
null_error t j = error_unless (not (has_unexpected_null t j)) UnexpectedNull
