-- What the getters of a builder return, in terms of its tree.
use Rattle.std.specs.Prelude.{◌≡◌, ◌≢◌, ◌⊎◌, ◌↔◌, ◌<◌, ◌*◌, ◌||◌, ℕ, Bool, true, false, length, get_or, Option, Some, None}
use Rattle.nest_memory.specs.TypeTree.{size_of}
use Rattle.nest_memory.specs.Physical.{physical_type}
use Rattle.nest_memory.specs.declared.datatypes.physical_type.PhysicalType.TheVariants as physical
use Rattle.nest_model.specs.Part.{Validity}
use Rattle.nest_model.specs.Slot as slots
use Rattle.nest_model.specs.Slot.{Slot}
use Rattle.nest_model.specs.Checks.{is_past}
use Rattle.nest_model.specs.BuilderTree.{BuilderTree, BuilderTrees, flat, list, fixed_size_list, dictionary, struct, no_builders, more_builders, builder_type, builder_len}
use Rattle.nest_model.specs.BuilderLevels.{own_slots}
use Rattle.nest_model.specs.BuilderItem.{PlainValue, takes}
use Rattle.nest_model.specs.BuilderRefusals.{bytes_pass}

-- its slot at index i
abbrev pub own_slot : BuilderTree → ℕ → Slot
own_slot t i = get_or (own_slots t) i slots.null

-- Validity bitmaps: one bit per row, 0 for a null row. Without a validity no row is null, except in a null builder.
abbrev pub ShowsNulls : Validity → BuilderTree → Type 0
ShowsNulls None t = (physical_type (builder_type t) ≡ physical.Null) ⊎ ((i : ℕ) → i < builder_len t → own_slot t i ≢ slots.null)
ShowsNulls (Some bits) t = (length bits ≡ builder_len t) × ((i : ℕ) → i < builder_len t → (get_or bits i true ≡ false) ↔ (own_slot t i ≡ slots.null))

-- the builder does not accept values of this kind
abbrev pub IsOfOtherKind : Option PlainValue → BuilderTree → Type 0
IsOfOtherKind None t = ⊥
IsOfOtherKind (Some v) t = takes t v ≡ false

-- Fixed-Size List Layout, fixed-size binary: n more rows need more items or bytes than a length can be, at this level
-- or below
abbrev mutual
  pub reserve_passes : ℕ → BuilderTree → Bool
  reserve_passes n (flat t xs) = bytes_pass (physical_type t) (n * size_of t) 0
  reserve_passes n (list large t rows c) = false
  reserve_passes n (fixed_size_list t bits c) = is_past (n * size_of t) || reserve_passes (n * size_of t) c
  reserve_passes n (dictionary k t keys c) = false
  reserve_passes n (struct t bits cs) = reserve_passes_each n cs

  pub reserve_passes_each : ℕ → BuilderTrees → Bool
  reserve_passes_each n no_builders = false
  reserve_passes_each n (more_builders c cs) = reserve_passes n c || reserve_passes_each n cs
