-- Columns and values that are written round-trip over known dictionaries.
use Rattle.std.specs.Prelude.{◌≡◌, ℕ, suc, List, [], ◌∷◌, map, Option, Ok}
use Rattle.std.specs.List.{AllByRecursion}
use Rattle.nest_memory.specs.TypeTree.{logical_type}
use Rattle.nest_model.specs.Layout.{Layout, layout_type}
use Rattle.nest_model.specs.Meaning.{len, slots_of}
use Rattle.ipc_arrays.specs.Decoding.{Rest, decoded_columns}
use Rattle.ipc_arrays.specs.BodyBuffers.{buffer_specs}
use Rattle.ipc_arrays.specs.ReplacedValues.{AreSameValues}
use Rattle.ipc_arrays.specs.Encoding.{field_node_of, written_arrays, buffers_of, columns_body}
use Rattle.ipc.specs.DictionaryEntries.{DictionaryEntries, own_entries, columns_own}
use Rattle.ipc.specs.PendingDictionaries.{entry_at}
use Rattle.ipc.specs.KnownDictionaries.{read_columns, read_values}

abbrev pub entry_values : DictionaryEntries → DictionaryEntries → List (Option Layout)
entry_values known entries = map (λ e. entry_at known e.0) entries

-- the field nodes and buffers of written columns, and the values of their dictionaries
abbrev pub written_rest : List Layout → List (Option Layout) → Rest
written_rest columns values = record { nodes = map field_node_of (written_arrays columns); buffers = buffer_specs 0 (buffers_of (written_arrays columns)); dictionaries = values }

-- columns round-trip: the slots and data types are the same
pub record ColumnsRoundTrip (known : DictionaryEntries) (columns : List Layout) : Type 0 where
  pub read : (rows : ℕ) → AllByRecursion (λ a. len a ≡ rows) columns → decoded_columns (map layout_type columns) rows (columns_body columns) (written_rest columns (entry_values known (columns_own 0 columns))) ≡ Ok (read_columns known columns)
  pub types : map layout_type (read_columns known columns) ≡ map layout_type columns
  pub slots : map slots_of (read_columns known columns) ≡ map slots_of columns

-- so do the values of an id, by their storage type
pub record ValuesRoundTrip (known : DictionaryEntries) (id : ℕ) (c : Layout) : Type 0 where
  pub read : decoded_columns (logical_type (layout_type c) ∷ []) (len c) (columns_body (c ∷ [])) (written_rest (c ∷ []) (entry_values known (own_entries (suc id) c))) ≡ Ok (read_values known id c ∷ [])
  pub same : AreSameValues c (read_values known id c)
