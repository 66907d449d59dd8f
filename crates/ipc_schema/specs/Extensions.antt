-- Extension types in the custom metadata of fields (Columnar format, Extension Types). Those of floating-point types are
-- not in the metadata.
use Rattle.std.specs.Prelude.{Bool, false, not, codes, Option, Some, None, is_some, if◌then◌else◌}
use Rattle.std.specs.Map.{lookup, remove_entry}
use Rattle.std.specs.BTreeMap.{insert_entry}
use Rattle.std.specs.Cmp.Lexicographic.{slice_cmp}
use Rattle.std.specs.Ordering.{nat_cmp}
use Rattle.std.specs.Str.{bytes_eq}
use Rattle.nest_memory.specs.TypeTree as types
use Rattle.nest_memory.specs.TypeTree.{Letters, Entries, TypeTree, FieldTree, field}
use Rattle.nest_memory.specs.Floats.{spec_is_float}
use Rattle.ipc_schema.specs.StoredTypes.{spec_is_reserved_name}

-- the reserved keys ARROW:extension:name and ARROW:extension:metadata
abbrev pub extension_name : Letters
extension_name = codes "ARROW:extension:name"

abbrev pub extension_metadata : Letters
extension_metadata = codes "ARROW:extension:metadata"

abbrev pub metadata_value : Letters → Entries → Option Letters
metadata_value key entries = lookup (λ other. bytes_eq key other) entries

abbrev pub spec_has_key : Letters → Entries → Bool
spec_has_key key entries = is_some (metadata_value key entries)

abbrev pub without : Letters → Entries → Entries
without key entries = remove_entry (λ other. bytes_eq key other) entries

abbrev pub spec_with_pair : Letters → Letters → Entries → Entries
spec_with_pair key value entries = insert_entry (slice_cmp nat_cmp) entries key value

-- the field of a type and all its metadata: the first key makes an extension type, and both keys are removed
abbrev pub spec_extension_field : Letters → TypeTree → Bool → Entries → Option Letters → FieldTree
spec_extension_field name type nullable entries None = field name type nullable entries
spec_extension_field name type nullable entries (Some title) =
    field name (types.extension title type (metadata_value extension_metadata (without extension_name entries))) nullable (without extension_metadata (without extension_name entries))

abbrev pub field_with_metadata : Letters → TypeTree → Bool → Entries → FieldTree
field_with_metadata name type nullable entries = spec_extension_field name type nullable entries (metadata_value extension_name entries)

-- whether the extension name of a field is reserved: for floating-point types, and for arrays that are stored otherwise than they are read
abbrev pub is_reserved_name_of : Option Letters → Bool
is_reserved_name_of None = false
is_reserved_name_of (Some title) = spec_is_reserved_name title

abbrev pub spec_names_reserved : Entries → Bool
spec_names_reserved entries = is_reserved_name_of (metadata_value extension_name entries)

-- the storage type of an extension type
abbrev pub spec_storage_type : TypeTree → TypeTree
spec_storage_type (types.extension title type metadata) = if spec_is_float (types.extension title type metadata) then types.extension title type metadata else type
spec_storage_type type = type

-- the type of the type table of a field: the value type where it is dictionary-encoded
abbrev pub values_type : TypeTree → TypeTree
values_type (types.dictionary key values ordered) = values
values_type type = type

abbrev pub spec_table_type : TypeTree → TypeTree
spec_table_type type = values_type (spec_storage_type type)

abbrev pub spec_is_extension : TypeTree → Bool
spec_is_extension (types.extension title type metadata) = not (spec_is_float (types.extension title type metadata))
spec_is_extension type = false

abbrev pub with_text : Option Letters → Entries → Entries
with_text None entries = entries
with_text (Some text) entries = spec_with_pair extension_metadata text entries

-- all metadata of a field: its own, and the keys of its extension type
abbrev pub all_metadata_of : TypeTree → Entries → Entries
all_metadata_of (types.extension title type text) entries = if spec_is_float (types.extension title type text) then entries else spec_with_pair extension_name title (with_text text entries)
all_metadata_of type entries = entries
