-- The keys of a dictionary at given indices.
use Rattle.std.specs.Prelude.{◌≡◌, ◌<◌, ℕ, ℤ, pos, List, [], map, get_or, length, if◌then◌else◌}
use Rattle.nest_model.specs.Accessors.{validity_of, key_at, key_type_of, raw_keys, as_integer}
use Rattle.nest_model.specs.Layout.{Layout, layout_type}
use Rattle.nest_model.specs.Meaning.{len}
use Rattle.nest_model.specs.Part.{valid_at}
use Rattle.nest_take.specs.Indices.{taken_validity}

-- the raw key of slot i, 0 where it is null
abbrev pub raw_at : Layout → ℕ → ℤ
raw_at ks i = if valid_at (validity_of ks) i then key_at ks i else pos 0

-- zs, the numbers of a native value, are that key
abbrev pub IsRawKey : Layout → ℕ → List ℤ → Type 0
IsRawKey ks i zs = as_integer zs ≡ raw_at ks i

-- the native values xs are the raw keys at these indices
abbrev pub AreRawKeysAt : {A : Type 0} → (A → List ℤ) → Layout → List ℕ → List A → Type 0
AreRawKeysAt numbers ks is xs = (length xs ≡ length is) × ((j : ℕ) → j < length is → IsRawKey ks (get_or is j 0) (get_or (map numbers xs) j []))

-- new are the keys at these indices, of the same key type
pub record AreKeysAt (ks : Layout) (is : List ℕ) (new : Layout) : Type 0 where
  pub same_type : layout_type new ≡ layout_type ks
  pub same_width : key_type_of new ≡ key_type_of ks
  pub validity : validity_of new ≡ taken_validity (validity_of ks) is
  pub count : len new ≡ length is
  pub raw_count : length (raw_keys new) ≡ length is
  pub raw : (j : ℕ) → j < length is → key_at new j ≡ raw_at ks (get_or is j 0)
