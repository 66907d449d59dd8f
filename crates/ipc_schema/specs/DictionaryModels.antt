-- The values of a Rust DictionaryTypes and DictionaryValueType.
use Rattle.std.specs.Prelude.{ℕ, ℤ, List, map}
use Rattle.nest_memory.specs.TypeOf.{type_of}
use Rattle.ipc_schema.specs.Dictionaries as models
use Rattle.ipc_schema.specs.declared.dictionaries.DictionaryValueType.{DictionaryValueType}
use Rattle.ipc_schema.specs.declared.dictionaries.DictionaryTypes.{DictionaryTypes}

abbrev pub value_type_of : DictionaryValueType → models.ValueTypeModel
value_type_of v = record { values = type_of v.data_type; inside = v.inside.items }

abbrev pub value_types_of : List (ℤ × DictionaryValueType) → List (ℤ × models.ValueTypeModel)
value_types_of entries = map (λ e. (e.0, value_type_of e.1)) entries

-- the dictionaries seen so far
abbrev pub seen_of : DictionaryTypes → models.DictionaryTypesModel
seen_of d = record { ids = d.ids.items; named = value_types_of d.named.entries }

-- the budget left and the dictionaries so far
abbrev pub progress_of : ℕ → DictionaryTypes → models.Progress
progress_of left seen = models.progress left (seen_of seen)
