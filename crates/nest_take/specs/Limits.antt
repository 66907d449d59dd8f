-- Limits of `take`: the rows taken at some level of an array have more items than its layout can hold.
use Rattle.std.specs.Prelude.{ℕ, suc, ◌+◌, ◌*◌, ◌<◌, ◌≤◌, ◌^◌, ◌⊎◌, ℤ, pos, Bool, false, List, [], ◌∷◌, Option, Some, None, map, length, get_or, nat_eq, if◌then◌else◌}
use Rattle.std.specs.List.{sum_by}
use Rattle.nest_memory.specs.TypeTree.{size_of, ids_of}
use Rattle.nest_memory.specs.Rising.{largest_offset}
use Rattle.nest_model.specs.Part.{Validity, to_index, field_named}
use Rattle.nest_model.specs.Layout.{Layout, Layouts, binary, utf8, fixed_size_binary, fixed_size_list, list, map as map_of, struct, union, no_layouts, more_layouts}
use Rattle.nest_take.specs.Indices.{count_at, item_indices, block_indices}

-- Variable-size layouts: the rows have more items than the largest offset
abbrev pub PassesOffsets : Bool → List ℕ → Validity → List ℕ → Type 0
PassesOffsets large os va is = largest_offset large < sum_by (count_at os va) is

-- Fixed-size layouts: rows of n items have 2^64 items or more in all
abbrev pub PassesLength : ℕ → List ℕ → Type 0
PassesLength n is = 2 ^ 64 ≤ length is * n

-- Union Layout, dense: the row picks field f
abbrev pub is_pick_of : ℕ → Option ℕ → Bool
is_pick_of f None = false
is_pick_of f (Some g) = nat_eq f g

-- the offsets at which the rows at these indices pick field f
abbrev pub picks_of : Option (List ℤ) → List ℤ → List ℤ → ℕ → List ℕ → List ℕ
picks_of ids ks os f [] = []
picks_of ids ks os f (i ∷ is) = if is_pick_of f (field_named ids (get_or ks i (pos 0))) then to_index (get_or os i (pos 0)) ∷ picks_of ids ks os f is else picks_of ids ks os f is

-- Some array of the tree has more items, bytes or picks than an offset or a length can hold.
-- A dictionary keeps its values.
abbrev mutual
  pub PassesLimits : Layout → List ℕ → Type 0
  PassesLimits (binary large t os bs va) is = PassesOffsets large os va is
  PassesLimits (utf8 large t os bs va) is = PassesOffsets large os va is
  PassesLimits (fixed_size_binary t bs va) is = PassesLength (size_of t) is
  PassesLimits (fixed_size_list t c va) is = PassesLength (size_of t) is ⊎ PassesLimits c (block_indices (size_of t) is)
  PassesLimits (list large t os c va) is = PassesOffsets large os va is ⊎ PassesLimits c (item_indices os va is)
  PassesLimits (map_of t os c va) is = PassesOffsets false os va is ⊎ PassesLimits c (item_indices os va is)
  PassesLimits (struct t cs va) is = SomePasses cs is
  PassesLimits (union t ks cs None start) is = SomePasses cs (map (λ i. start + i) is)
  PassesLimits (union t ks cs (Some os) start) is = PicksPass (λ f. picks_of (ids_of t) ks os f is) 0 cs
  PassesLimits a is = ⊥

  pub SomePasses : Layouts → List ℕ → Type 0
  SomePasses no_layouts is = ⊥
  SomePasses (more_layouts c cs) is = PassesLimits c is ⊎ SomePasses cs is

  -- of the children from field f on, one has more picks than 32-bit offsets can hold or passes a limit itself
  pub PicksPass : (ℕ → List ℕ) → ℕ → Layouts → Type 0
  PicksPass picks f no_layouts = ⊥
  PicksPass picks f (more_layouts c cs) = (largest_offset false + 1 < length (picks f)) ⊎ (PassesLimits c (picks f) ⊎ PicksPass picks (suc f) cs)
