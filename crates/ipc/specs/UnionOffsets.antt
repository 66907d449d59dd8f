-- Whether appending values would push an offset of a dense union over its data type. Source: Columnar format, "Dense Union". An offset names a slot of a field;
-- after other values it grows by the length of that field in them. Offsets are signed, with 32 bits.
use Rattle.std.specs.Prelude.{ℕ, ◌+◌, ◌^◌, ℤ, pos, Bool, true, false, ◌&&◌, ◌||◌, nat_le, List, get_or, Option, is_some}
use Rattle.std.specs.List.{list_any, range_with_len}
use Rattle.nest_memory.specs.TypeTree.{ids_of}
use Rattle.nest_model.specs.Accessors.{types_of, union_offsets_of, start_of}
use Rattle.nest_model.specs.Fits.{child_len}
use Rattle.nest_model.specs.Layout.{Layout, Layouts, fixed_size_list, list as list_of, map as map_of, struct, union, no_layouts, more_layouts, layout_type}
use Rattle.nest_model.specs.Meaning.{len, union_index}
use Rattle.nest_model.specs.Part.{field_named}

-- the child arrays of an array, without the values of a dictionary array, which are extended by their own messages
abbrev pub spec_children : Layout → Layouts
spec_children (fixed_size_list t c va) = more_layouts c no_layouts
spec_children (list_of large t os c va) = more_layouts c no_layouts
spec_children (map_of t os c va) = more_layouts c no_layouts
spec_children (struct t cs va) = cs
spec_children (union t ks cs os start) = cs
spec_children a = no_layouts

-- the offset of slot i of a union overflows after these fields
abbrev pub offset_past : Layouts → Layout → ℕ → Bool
offset_past cs more i = nat_le (2 ^ 31) (child_len cs (field_named (ids_of (layout_type more)) (get_or (types_of more) i (pos 0))) + union_index (union_offsets_of more) (start_of more) i)

-- the offset of some slot does
abbrev pub spec_slots_overflow : Layouts → Layout → Bool
spec_slots_overflow cs more = is_some (union_offsets_of more) && list_any (offset_past cs more) (range_with_len 0 (len more))

abbrev pub spec_offsets_overflow : Layout → Layout → Bool
spec_offsets_overflow (union t ks cs os start) more = spec_slots_overflow cs more
spec_offsets_overflow values more = false

abbrev pub of_first : (Layout → Bool) → Layouts → Bool
of_first past no_layouts = false
of_first past (more_layouts c cs) = past c

-- at any depth, of values and more of the same data type
abbrev mutual
  pub spec_union_offsets_overflow : Layout → Layout → Bool
  spec_union_offsets_overflow (fixed_size_list t c va) more = of_first (spec_union_offsets_overflow c) (spec_children more)
  spec_union_offsets_overflow (list_of large t os c va) more = of_first (spec_union_offsets_overflow c) (spec_children more)
  spec_union_offsets_overflow (map_of t os c va) more = of_first (spec_union_offsets_overflow c) (spec_children more)
  spec_union_offsets_overflow (struct t cs va) more = spec_any_overflows cs (spec_children more)
  spec_union_offsets_overflow (union t ks cs os start) more = spec_slots_overflow cs more || spec_any_overflows cs (spec_children more)
  spec_union_offsets_overflow values more = false

  -- field by field
  pub spec_any_overflows : Layouts → Layouts → Bool
  spec_any_overflows no_layouts ds = false
  spec_any_overflows (more_layouts c cs) no_layouts = false
  spec_any_overflows (more_layouts c cs) (more_layouts d ds) = spec_union_offsets_overflow c d || spec_any_overflows cs ds
