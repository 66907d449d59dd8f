-- The parts of the array that a builder freezes to.
use Rattle.std.specs.Prelude.{◌≡◌, ℕ, ◌<◌, Bool, true, false, List, [], ◌∷◌, length, map, get_or, Option, Some, None}
use Rattle.nest_model.specs.Part.{Validity, valid_at, to_index}
use Rattle.nest_model.specs.Layout.{Layout, Layouts, no_layouts, more_layouts}
use Rattle.nest_model.specs.Accessors.{validity_of, key_at}
use Rattle.nest_model.specs.Meaning.{len, slots_of}
use Rattle.nest_model.specs.BuilderRow.{Row}
use Rattle.nest_model.specs.BuilderTree.{BuilderTrees, no_builders, more_builders}
use Rattle.nest_model.specs.BuilderLevels.{own_slots}

-- Variable-size List Layout: the offsets of rows whose items start at offset s, and their validity bits
abbrev pub offsets_from : ℕ → List Row → List ℕ
offsets_from s [] = s ∷ []
offsets_from s (r ∷ rs) = s ∷ offsets_from r.end rs

abbrev pub row_bits : List Row → List Bool
row_bits rows = map (λ (r : Row). r.valid) rows

-- Validity bitmaps: one bit per row, or no bitmap if each row is valid
abbrev pub EncodesBits : Validity → List Bool → Type 0
EncodesBits None bits = (i : ℕ) → i < length bits → get_or bits i true ≡ true
EncodesBits (Some vs) bits = vs ≡ bits

-- Dictionary-encoded Layout: a valid key for each row with a value, a null key for every other row
abbrev pub EncodesKey : Layout → ℕ → Option ℕ → Type 0
EncodesKey ks i None = valid_at (validity_of ks) i ≡ false
EncodesKey ks i (Some k) = (valid_at (validity_of ks) i ≡ true) × (to_index (key_at ks i) ≡ k)

abbrev pub EncodesKeys : Layout → List (Option ℕ) → Type 0
EncodesKeys ks keys = (len ks ≡ length keys) × ((i : ℕ) → i < length keys → EncodesKey ks i (get_or keys i None))

-- each child's array represents the child's own slots
abbrev pub EachFrozen : Layouts → BuilderTrees → Type 0
EachFrozen no_layouts no_builders = Unit {0}
EachFrozen no_layouts (more_builders c cs) = ⊥
EachFrozen (more_layouts a rest) no_builders = ⊥
EachFrozen (more_layouts a rest) (more_builders c cs) = (slots_of a ≡ own_slots c) × EachFrozen rest cs
