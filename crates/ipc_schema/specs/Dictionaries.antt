-- Dictionary encodings of fields, and the dictionaries of a schema (Schema.fbs, table DictionaryEncoding).
use Rattle.std.specs.Prelude.{ℕ, suc, ℤ, pos, Bool, ◌&&◌, List, [], ◌∷◌, ◌++◌, drop, Option, Some, None, Result, Ok, nat_lt}
use Rattle.std.specs.Map.{lookup}
use Rattle.std.specs.BTreeMap.{insert_entry, is_at}
use Rattle.std.specs.Cmp.Lexicographic.{pointwise}
use Rattle.std.specs.Ordering.{int_cmp, int_eq}
use Rattle.std.specs.Int.{w8, w16, w64}
use Rattle.nest_memory.specs.TypeTree as types
use Rattle.nest_memory.specs.TypeTree.{TypeTree}
use Rattle.nest_memory.specs.TypeEq.{same_type}
use Rattle.nest_memory.specs.declared.datatypes.IntegerType.{IntegerType}
use Rattle.nest_memory.specs.declared.datatypes.IntegerType.TheVariants.{Int32}
use Rattle.ipc_flatbuf.specs.ReadResults.{◌>>=◌, check}
use Rattle.ipc_flatbuf.specs.declared.error.IpcReadError.{IpcReadError}
use Rattle.ipc_flatbuf.specs.declared.error.IpcReadError.TheVariants.{TypeRange, DictionaryType}
use Rattle.ipc_flatbuf.specs.Flatbuffers as words
use Rattle.ipc_flatbuf.specs.Flatbuffers.{number_at, signed_at, spec_offset_field, spec_read_table}
use Rattle.ipc_schema.specs.Types.{spec_integer_at}
use Rattle.ipc_schema.specs.StoredTypes.{spec_value_type}
use Rattle.ipc_schema.specs.declared.dictionaries.Encoding.{Encoding}

-- ---- tables

-- the type of the keys, Int32 where it is absent
unfoldable pub spec_key_at : List ℕ → Option ℕ → ℕ → Result (IntegerType × ℕ) IpcReadError
spec_key_at bytes None left = Ok (Int32, left)
spec_key_at bytes (Some position) left = spec_integer_at bytes position left

unfoldable pub spec_encoding_at : List ℕ → ℕ → ℕ → Result (Encoding × ℕ) IpcReadError
spec_encoding_at bytes position left = do
  table ← spec_read_table bytes position left
  id ← words.field (signed_at w64 bytes) (pos 0) bytes table.0 0
  ordered ← words.field (number_at w8 bytes) 0 bytes table.0 2
  to ← spec_offset_field bytes table.0 1
  key ← spec_key_at bytes to table.1
  kind ← words.field (signed_at w16 bytes) (pos 0) bytes table.0 3
  dense ← check (int_eq kind (pos 0)) TypeRange
  Ok (record { id = id; key = key.0; is_ordered = nat_lt 0 ordered }, key.1)

-- the encoding of a field, None where it is absent
abbrev pub spec_dictionary_at : List ℕ → Option ℕ → ℕ → Result (Option Encoding × ℕ) IpcReadError
spec_dictionary_at bytes None left = Ok (None, left)
spec_dictionary_at bytes (Some position) left = spec_encoding_at bytes position left >>= λ e. Ok (Some e.0, e.1)

-- the type of a field by its value type
abbrev pub spec_with_encoding : Option Encoding → TypeTree → TypeTree
spec_with_encoding None type = type
spec_with_encoding (Some e) type = types.dictionary e.key type e.is_ordered

-- ---- value types of ids

-- the value of a DictionaryValueType: the value type of an id as it is stored, without extension types, and the ids nested in it
pub record ValueTypeModel : Type 0 where
  pub values : TypeTree
  pub inside : List ℤ

-- the value of a DictionaryTypes: the ids of the fields so far, in pre-order, and their value types
pub record DictionaryTypesModel : Type 0 where
  pub ids : List ℤ
  pub named : List (ℤ × ValueTypeModel)

abbrev pub no_dictionaries : DictionaryTypesModel
no_dictionaries = record { ids = []; named = [] }

-- the id of a field precedes those of its children
abbrev pub spec_record_id : Option Encoding → DictionaryTypesModel → DictionaryTypesModel
spec_record_id None seen = seen
spec_record_id (Some e) seen = record { ids = seen.ids ++ e.id ∷ []; named = seen.named }

abbrev pub spec_same_values : ValueTypeModel → ValueTypeModel → Bool
spec_same_values v w = same_type v.values w.values && pointwise int_eq v.inside w.inside

abbrev pub with_value_type : ℤ → ValueTypeModel → DictionaryTypesModel → DictionaryTypesModel
with_value_type id new seen = record { ids = seen.ids; named = insert_entry int_cmp seen.named id new }

-- an id has one value type in all fields, where the floating-point types count as the types of their bits
abbrev pub spec_name_values : ℤ → ValueTypeModel → DictionaryTypesModel → Option ValueTypeModel → Result DictionaryTypesModel IpcReadError
spec_name_values id new seen None = Ok (with_value_type id new seen)
spec_name_values id new seen (Some old) = check (spec_same_values old new) DictionaryType >>= λ same. Ok seen

-- the dictionaries after a field of this value type; before ids precede its own
abbrev pub spec_record_values : Option Encoding → TypeTree → ℕ → DictionaryTypesModel → Result DictionaryTypesModel IpcReadError
spec_record_values None type before seen = Ok seen
spec_record_values (Some e) type before seen = spec_name_values e.id (record { values = spec_value_type type; inside = drop (suc before) seen.ids }) seen (lookup (is_at (int_cmp e.id)) seen.named)

-- ---- reading

-- the budget left, and the dictionaries so far
pub record Progress : Type 0 where
  pub left : ℕ
  pub seen : DictionaryTypesModel

abbrev pub progress : ℕ → DictionaryTypesModel → Progress
progress left seen = record { left = left; seen = seen }
