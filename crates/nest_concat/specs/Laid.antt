-- The layout of concatenated windows, part by part, and the tests of `Limits`.
use Rattle.std.specs.Prelude.{ℕ, suc, ◌+◌, ◌^◌, ℤ, Bool, true, false, ◌&&◌, ◌||◌, not, nat_le, nat_lt, List, [], ◌∷◌, map, Option, Some, None, if◌then◌else◌}
use Rattle.std.specs.List.{flat_map, list_all, list_any, range_with_len, sum_by}
use Rattle.nest_memory.specs.Rising.{ends_from, largest_offset}
use Rattle.nest_memory.specs.TypeTree.{size_of}
use Rattle.nest_model.specs.Accessors.{child_of, key_at, keys_of, validity_of}
use Rattle.nest_model.specs.Checks.{most_picks}
use Rattle.nest_model.specs.Layout.{Layout, Layouts, null, boolean, primitive, binary, utf8, fixed_size_binary, fixed_size_list, list, map as map_of, struct, union, dictionary, no_layouts, more_layouts, count_layouts}
use Rattle.nest_model.specs.Part.{to_index, valid_at}
use Rattle.nest_model.specs.SameArray.{same_array}
use Rattle.nest_array.specs.WindowParts.{WindowParts}
use Rattle.nest_concat.specs.Joined.{first_array, whole}
use Rattle.nest_concat.specs.Lookups.{count_values, joined_keys, most_keys, values_in}
use Rattle.nest_concat.specs.Moved.{joined_offsets, type_ids_in}
use Rattle.nest_concat.specs.Windows.{blocks_in, blocks_of, bytes_in, window_item_count, count_slots, extents_in, field_window, items_in, concatenated_validity, natives_in, booleans_in}

-- Variable-size layouts: the offsets of the rows, from 0
abbrev pub joined_rows : List WindowParts → List ℕ
joined_rows ws = 0 ∷ ends_from 0 (flat_map extents_in ws)

-- Dictionary-encoded Layout: the concatenated keys, of the type of these keys
abbrev pub laid_keys : Bool → Layout → List WindowParts → Layout
laid_keys moved (primitive k t vs va) ws = primitive k t (map (λ z. z ∷ []) (joined_keys moved ws)) (concatenated_validity ws)
laid_keys moved ks ws = ks

-- the values of each array equal c
abbrev pub have_values : Layout → List WindowParts → Bool
have_values c ws = list_all (λ w. same_array (child_of w.array) c) ws

-- The concatenation of windows over arrays, the first of which has this layout.
-- Each part is that of the windows, one window after another.
abbrev mutual
  pub laid : Layout → List WindowParts → Layout
  laid (null t n) ws = null t (count_slots ws)
  laid (boolean t bs va) ws = boolean t (flat_map booleans_in ws) (concatenated_validity ws)
  laid (primitive k t vs va) ws = primitive k t (flat_map natives_in ws) (concatenated_validity ws)
  laid (binary large t os bs va) ws = binary large t (joined_rows ws) (flat_map bytes_in ws) (concatenated_validity ws)
  laid (utf8 large t os bs va) ws = utf8 large t (joined_rows ws) (flat_map bytes_in ws) (concatenated_validity ws)
  laid (fixed_size_binary t bs va) ws = fixed_size_binary t (flat_map (blocks_in (size_of t)) ws) (concatenated_validity ws)
  laid (fixed_size_list t c va) ws = fixed_size_list t (laid c (map (blocks_of (size_of t)) ws)) (concatenated_validity ws)
  laid (list large t os c va) ws = list large t (joined_rows ws) (laid c (map items_in ws)) (concatenated_validity ws)
  laid (map_of t os c va) ws = map_of t (joined_rows ws) (laid c (map items_in ws)) (concatenated_validity ws)
  laid (struct t cs va) ws = struct t (laid_each cs 0 ws) (concatenated_validity ws)
  laid (union t ks cs os start) ws = union t (flat_map type_ids_in ws) (laid_each cs 0 ws) (joined_offsets os ws) 0
  laid (dictionary t ks c) ws = if have_values c ws then dictionary t (laid_keys false ks ws) c else dictionary t (laid_keys true ks ws) (laid c (map values_in ws))

  -- of the children from field f on
  pub laid_each : Layouts → ℕ → List WindowParts → Layouts
  laid_each no_layouts f ws = no_layouts
  laid_each (more_layouts c cs) f ws = more_layouts (laid c (map (field_window f) ws)) (laid_each cs (suc f) ws)

-- The tests of `Limits`: there are 2^64 slots or more; the rows have more items than the largest offset
abbrev pub passes_length : List WindowParts → Bool
passes_length ws = nat_le (2 ^ 64) (count_slots ws)

abbrev pub passes_offsets : Bool → List WindowParts → Bool
passes_offsets large ws = nat_lt (largest_offset large) (sum_by window_item_count ws)

-- Union Layout, dense: the parts of one of the first n fields have too many slots
abbrev pub passes_picks : Option (List ℤ) → ℕ → List WindowParts → Bool
passes_picks None n ws = false
passes_picks (Some os) n ws = list_any (λ f. nat_lt most_picks (count_slots (map (field_window f) ws))) (range_with_len 0 n)

-- Dictionary-encoded Layout: a valid key of the window, or of some window, is n or more after s other values
abbrev pub key_passes : ℕ → ℕ → WindowParts → Bool
key_passes n s w = list_any (λ i. valid_at (validity_of w.array) i && nat_le n (s + to_index (key_at (keys_of w.array) i))) (range_with_len w.offset w.count)

abbrev pub keys_pass : ℕ → ℕ → List WindowParts → Bool
keys_pass n s [] = false
keys_pass n s (w ∷ ws) = key_passes n s w || keys_pass n (s + count_values w) ws

-- some array of the tree passes a limit
abbrev mutual
  pub passes : Layout → List WindowParts → Bool
  passes (binary large t os bs va) ws = passes_length ws || passes_offsets large ws
  passes (utf8 large t os bs va) ws = passes_length ws || passes_offsets large ws
  passes (fixed_size_list t c va) ws = passes_length ws || passes c (map (blocks_of (size_of t)) ws)
  passes (list large t os c va) ws = passes_length ws || (passes_offsets large ws || passes c (map items_in ws))
  passes (map_of t os c va) ws = passes_length ws || (passes_offsets false ws || passes c (map items_in ws))
  passes (struct t cs va) ws = passes_length ws || some_passes cs 0 ws
  passes (union t ks cs os start) ws = passes_length ws || (passes_picks os (count_layouts cs) ws || some_passes cs 0 ws)
  passes (dictionary t ks c) ws = passes_length ws || (not (have_values c ws) && (keys_pass (most_keys t) 0 ws || passes c (map values_in ws)))
  passes a ws = passes_length ws

  -- of the children from field f on
  pub some_passes : Layouts → ℕ → List WindowParts → Bool
  some_passes no_layouts f ws = false
  some_passes (more_layouts c cs) f ws = passes c (map (field_window f) ws) || some_passes cs (suc f) ws

-- the same for all slots of arrays, one array after another
abbrev pub joined_layout : List Layout → Layout
joined_layout as_ = laid (first_array (map whole as_)) (map whole as_)

abbrev pub two_joined : Layout → Layout → Layout
two_joined a b = joined_layout (a ∷ b ∷ [])

abbrev pub joins_past : List Layout → Bool
joins_past as_ = passes (first_array (map whole as_)) (map whole as_)
