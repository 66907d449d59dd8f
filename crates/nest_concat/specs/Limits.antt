-- Limits of concatenation: the rows at some level of the arrays have more items than their layout can hold.
use Rattle.std.specs.Prelude.{ℕ, suc, ℤ, ◌<◌, ◌≤◌, ◌^◌, ◌⊎◌, Bool, false, List, map, Option, Some, None}
use Rattle.std.specs.List.{sum_by}
use Rattle.nest_memory.specs.TypeTree.{size_of}
use Rattle.nest_memory.specs.Rising.{largest_offset}
use Rattle.nest_model.specs.Checks.{most_picks}
use Rattle.nest_model.specs.Layout.{Layout, Layouts, binary, utf8, fixed_size_list, list, map as map_of, struct, union, dictionary, no_layouts, more_layouts, count_layouts}
use Rattle.nest_array.specs.WindowParts.{WindowParts}
use Rattle.nest_concat.specs.Windows.{count_slots, window_item_count, items_in, blocks_of, field_window}
use Rattle.nest_concat.specs.Lookups.{HaveValues, KeysPass, most_keys, values_in}

-- there are 2^64 slots or more
abbrev pub PassesLength : List WindowParts → Type 0
PassesLength ws = 2 ^ 64 ≤ count_slots ws

-- Variable-size layouts: the rows have more items than the largest offset
abbrev pub PassesOffsets : Bool → List WindowParts → Type 0
PassesOffsets large ws = largest_offset large < sum_by window_item_count ws

-- Union Layout, dense: the parts of a field have more slots than 32-bit offsets can hold
abbrev pub PassesPicks : Option (List ℤ) → ℕ → List WindowParts → Type 0
PassesPicks None n ws = ⊥
PassesPicks (Some os) n ws = (f : ℕ) × (f < n) × (most_picks < count_slots (map (field_window f) ws))

-- Some array of the tree has more slots or items than a length or an offset can hold.
-- The kinds are those of the first array.
-- Where dictionaries have different values, a moved key passes its type, or the values of all arrays pass a limit.
abbrev mutual
  pub PassesLimits : Layout → List WindowParts → Type 0
  PassesLimits (binary large t os bs va) ws = PassesLength ws ⊎ PassesOffsets large ws
  PassesLimits (utf8 large t os bs va) ws = PassesLength ws ⊎ PassesOffsets large ws
  PassesLimits (fixed_size_list t c va) ws = PassesLength ws ⊎ PassesLimits c (map (blocks_of (size_of t)) ws)
  PassesLimits (list large t os c va) ws = PassesLength ws ⊎ (PassesOffsets large ws ⊎ PassesLimits c (map items_in ws))
  PassesLimits (map_of t os c va) ws = PassesLength ws ⊎ (PassesOffsets false ws ⊎ PassesLimits c (map items_in ws))
  PassesLimits (struct t cs va) ws = PassesLength ws ⊎ SomePasses cs 0 ws
  PassesLimits (union t ks cs os start) ws = PassesLength ws ⊎ (PassesPicks os (count_layouts cs) ws ⊎ SomePasses cs 0 ws)
  PassesLimits (dictionary t ks c) ws = PassesLength ws ⊎ ((HaveValues c ws → ⊥) × (KeysPass (most_keys t) 0 ws ⊎ PassesLimits c (map values_in ws)))
  PassesLimits a ws = PassesLength ws

  -- of the children from field f on
  pub SomePasses : Layouts → ℕ → List WindowParts → Type 0
  SomePasses no_layouts f ws = ⊥
  SomePasses (more_layouts c cs) f ws = PassesLimits c (map (field_window f) ws) ⊎ SomePasses cs (suc f) ws
