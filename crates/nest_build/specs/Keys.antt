-- The rows of dictionary builders as an array of keys.
use Rattle.std.specs.Prelude.{◌≡◌, ℕ, ℤ, pos, List, [], map, Option, Some, None, option_map}
use Rattle.nest_memory.specs.declared.datatypes.IntegerType.{IntegerType}
use Rattle.nest_array.specs.Types.{default_dictionary_type}
use Rattle.nest_model.specs.Part.{to_index}
use Rattle.nest_model.specs.Slot as slots
use Rattle.nest_model.specs.Slot.{Slot}
use Rattle.nest_model.specs.Layout.{Layout}
use Rattle.nest_model.specs.Accessors.{as_integer, raw_keys, validity_of}
use Rattle.nest_model.specs.Meaning.{len, slots_of}
use Rattle.nest_model.specs.BuilderRow.{values_needed}
use Rattle.nest_model.specs.BuilderTree.{BuilderTree, builder_type, dictionary}

-- the key of a slot of the array of keys
abbrev pub key_of_slot : Slot → Option ℕ
key_of_slot (slots.number zs) = Some (to_index (as_integer zs))
key_of_slot _ = None

abbrev pub encoded_keys : Layout → List (Option ℕ)
encoded_keys a = map key_of_slot (slots_of a)

-- the raw key of a row, 0 for a null row
abbrev pub raw_key : Option ℕ → ℤ
raw_key None = pos 0
raw_key (Some k) = pos k

-- each raw key is that of its row, and the keys need this many values; without rows there is no validity
pub record AreKept (a : Layout) (needed : ℕ) : Type 0 where
  pub raw : raw_keys a ≡ map raw_key (encoded_keys a)
  pub count : needed ≡ values_needed (encoded_keys a)
  pub bare : len a ≡ 0 → validity_of a ≡ None

-- the keys of a dictionary builder, and the builder of its values
abbrev pub builder_keys : BuilderTree → List (Option ℕ)
builder_keys (dictionary k t keys c) = keys
builder_keys _ = []

abbrev pub dictionary_child : BuilderTree → BuilderTree
dictionary_child (dictionary k t keys c) = c
dictionary_child t = t

-- the builder without rows over these values, of the default dictionary type
abbrev pub default_dictionaries : IntegerType → BuilderTree → BuilderTree
default_dictionaries k c = dictionary k (default_dictionary_type k (builder_type c)) [] c

-- there is a key, of a native type with these numbers, and it is k
abbrev pub IsKey : {K : Type 0} → (K → List ℤ) → Option K → ℕ → Type 0
IsKey numbers given k = option_map (λ key. as_integer (numbers key)) given ≡ Some (pos k)
