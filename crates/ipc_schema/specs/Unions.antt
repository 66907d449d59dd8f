-- Unions in a schema. Before metadata version V5 unions had a validity bitmap, so unions of V4 are not supported.
use Rattle.std.specs.Prelude.{ℕ, zero, suc, Bool, true, false, not, ◌||◌, List, Result, Ok}
use Rattle.std.specs.List.{list_any}
use Rattle.nest_memory.specs.TypeTree as types
use Rattle.nest_memory.specs.TypeTree.{TypeTree, FieldTree, field_type}
use Rattle.ipc_flatbuf.specs.ReadResults.{check}
use Rattle.ipc_flatbuf.specs.declared.error.IpcReadError.{IpcReadError}
use Rattle.ipc_flatbuf.specs.declared.error.IpcReadError.TheVariants as errors
use Rattle.ipc_flatbuf.specs.declared.message.types.MetadataVersion as versions
use Rattle.ipc_flatbuf.specs.declared.message.types.MetadataVersion.TheVariants.{V4, V5}
use Rattle.ipc_schema.specs.Extensions.{spec_table_type}
use Rattle.ipc_schema.specs.Types.{spec_children_of}

abbrev pub spec_is_union : TypeTree → Bool
spec_is_union (types.union fs ids mode) = true
spec_is_union type = false

-- in a field and its descendants, to a depth
unfoldable pub spec_field_has_union : ℕ → FieldTree → Bool
spec_field_has_union zero f = false
spec_field_has_union (suc depth) f = spec_is_union (spec_table_type (field_type f)) || list_any (spec_field_has_union depth) (spec_children_of (spec_table_type (field_type f)))

-- in the fields of a schema, to the depth of 64 that readers accept
abbrev pub have_union : List FieldTree → Bool
have_union fields = list_any (spec_field_has_union 64) fields

-- metadata of version V4 does not support unions
abbrev pub spec_check_version : versions.MetadataVersion → Bool → Result (Unit {0}) IpcReadError
spec_check_version V4 union = check (not union) errors.Version
spec_check_version V5 union = Ok tt
