-- A slice of an array a: the parts of its n slots from index o. It has a validity if and only if a has one.
-- The definitions are this library's own.
use Rattle.std.specs.Prelude.{ℕ, ◌+◌, ◌*◌, ℤ, List, Option, Some, None, ◌≡◌}
use Rattle.nest_memory.specs.TypeTree.{size_of}
use Rattle.nest_memory.specs.Sublist.{sublist}
use Rattle.nest_model.specs.Part.{sliced_validity}
use Rattle.nest_model.specs.Layout.{Layout, Layouts, null, boolean, primitive, binary, utf8, fixed_size_binary, fixed_size_list, list, map, struct, union, dictionary, no_layouts, more_layouts, layout_type}
use Rattle.nest_model.specs.Meaning.{slots_of}

abbrev pub slice_offsets : Option (List ℤ) → ℕ → ℕ → Option (List ℤ)
slice_offsets None o n = None
slice_offsets (Some os) o n = Some (sublist os o n)

-- The children of a list, map or union and the values of a dictionary are not sliced.
-- The items of a fixed-size list, the children of a struct and the keys of a dictionary are sliced.
abbrev mutual
  pub slice_layout : Layout → ℕ → ℕ → Layout
  slice_layout (null t m) o n = null t n
  slice_layout (boolean t bs va) o n = boolean t (sublist bs o n) (sliced_validity va o n)
  slice_layout (primitive k t vs va) o n = primitive k t (sublist vs o n) (sliced_validity va o n)
  slice_layout (binary l t os bs va) o n = binary l t (sublist os o (n + 1)) bs (sliced_validity va o n)
  slice_layout (utf8 l t os bs va) o n = utf8 l t (sublist os o (n + 1)) bs (sliced_validity va o n)
  slice_layout (fixed_size_binary t bs va) o n = fixed_size_binary t (sublist bs (o * size_of t) (n * size_of t)) (sliced_validity va o n)
  slice_layout (fixed_size_list t c va) o n = fixed_size_list t (slice_layout c (o * size_of t) (n * size_of t)) (sliced_validity va o n)
  slice_layout (list l t os c va) o n = list l t (sublist os o (n + 1)) c (sliced_validity va o n)
  slice_layout (map t os c va) o n = map t (sublist os o (n + 1)) c (sliced_validity va o n)
  slice_layout (struct t cs va) o n = struct t (slice_layouts cs o n) (sliced_validity va o n)
  slice_layout (union t ks cs os start) o n = union t (sublist ks o n) cs (slice_offsets os o n) (start + o)
  slice_layout (dictionary t ks c) o n = dictionary t (slice_layout ks o n) c

  pub slice_layouts : Layouts → ℕ → ℕ → Layouts
  slice_layouts no_layouts o n = no_layouts
  slice_layouts (more_layouts c cs) o n = more_layouts (slice_layout c o n) (slice_layouts cs o n)

-- The array b is the slice of n slots of a from index o, with the parts of `slice_layout` and the data type of a.
pub record IsSlice (a : Layout) (o n : ℕ) (b : Layout) : Type 0 where
  pub parts : b ≡ slice_layout a o n
  pub slots : slots_of b ≡ sublist (slots_of a) o n
  pub same_type : layout_type b ≡ layout_type a
