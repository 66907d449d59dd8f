-- Offsets of dense unions after other values: unions of nulls, of one slot each.
use Rattle.std.specs.Prelude.{◌≡◌, ℕ, ◌-◌, ◌^◌, ℤ, true, false, pos, List, [], ◌∷◌, None, Some, refl}
use Rattle.nest_memory.specs.TypeTree as types
use Rattle.nest_memory.specs.TypeTree.{TypeTree, FieldTrees, field, no_fields, more_fields}
use Rattle.nest_memory.specs.declared.datatypes.IntegerType.TheVariants.{Int8}
use Rattle.nest_memory.specs.declared.datatypes.UnionMode.TheVariants.{Dense, Sparse}
use Rattle.nest_memory.specs.declared.datatypes.physical_type.PrimitiveType.TheVariants as primitives
use Rattle.nest_model.specs.Layout.{Layout, null, primitive, fixed_size_list, list as list_of, map as map_of, struct, union, dictionary, no_layouts, more_layouts}
use Rattle.ipc.specs.UnionOffsets.{spec_union_offsets_overflow}

abbrev one_field : TypeTree → FieldTrees
one_field t = more_fields (field [] t true []) no_fields

abbrev picks_type : TypeTree
picks_type = types.union (one_field types.null) None Dense

-- the slot at an index of this many nulls
abbrev pick : ℕ → ℕ → Layout
pick n position = union picks_type (pos 0 ∷ []) (more_layouts (null types.null n) no_layouts) (Some (pos position ∷ [])) 0

-- the largest offset, and one more
last_fits : spec_union_offsets_overflow (pick (2 ^ 31 - 2) 0) (pick 2 1) ≡ false
last_fits = refl

one_more : spec_union_offsets_overflow (pick (2 ^ 31 - 1) 0) (pick 2 1) ≡ true
one_more = refl

begins_past : spec_union_offsets_overflow (pick (2 ^ 31) 0) (pick 1 0) ≡ true
begins_past = refl

-- Of two fields each type id names its own, and each slot counts.
abbrev two_fields : ℕ → ℕ → List ℤ → List ℤ → Layout
two_fields n m ks os = union (types.union (more_fields (field [] types.null true []) (one_field types.null)) (Some (pos 5 ∷ pos 3 ∷ [])) Dense) ks (more_layouts (null types.null n) (more_layouts (null types.null m) no_layouts)) (Some os) 0

of_other_field : spec_union_offsets_overflow (two_fields (2 ^ 31) 1 [] []) (two_fields 1 1 (pos 3 ∷ []) (pos 0 ∷ [])) ≡ false
of_other_field = refl

of_field : spec_union_offsets_overflow (two_fields 1 (2 ^ 31) [] []) (two_fields 1 1 (pos 3 ∷ []) (pos 0 ∷ [])) ≡ true
of_field = refl

second_slot : spec_union_offsets_overflow (two_fields 1 (2 ^ 31) [] []) (two_fields 1 1 (pos 5 ∷ pos 3 ∷ []) (pos 0 ∷ pos 0 ∷ [])) ≡ true
second_slot = refl

-- a sparse union has no offsets
abbrev sparse_of : Layout → Layout
sparse_of c = union (types.union (one_field types.null) None Sparse) (pos 0 ∷ []) (more_layouts c no_layouts) None 0

no_offset : spec_union_offsets_overflow (sparse_of (null types.null (2 ^ 31))) (sparse_of (null types.null 1)) ≡ false
no_offset = refl

-- ---- nested

in_sparse : spec_union_offsets_overflow (sparse_of (pick (2 ^ 31) 0)) (sparse_of (pick 1 0)) ≡ true
in_sparse = refl

in_dense : spec_union_offsets_overflow (union picks_type [] (more_layouts (pick (2 ^ 31) 0) no_layouts) (Some []) 0) (union picks_type [] (more_layouts (pick 1 0) no_layouts) (Some []) 0) ≡ true
in_dense = refl

-- the second field of records
abbrev record_of : Layout → Layout
record_of c = struct (types.struct (more_fields (field [] types.null true []) (one_field picks_type))) (more_layouts (null types.null 1) (more_layouts c no_layouts)) None

in_record : spec_union_offsets_overflow (record_of (pick (2 ^ 31) 0)) (record_of (pick 1 0)) ≡ true
in_record = refl

abbrev row_of : Layout → Layout
row_of c = list_of false (types.list (field [] picks_type true [])) (0 ∷ 1 ∷ []) c None

in_row : spec_union_offsets_overflow (row_of (pick (2 ^ 31) 0)) (row_of (pick 1 0)) ≡ true
in_row = refl

abbrev map_with : Layout → Layout
map_with c = map_of (types.map (field [] (types.struct (more_fields (field [] types.null true []) (one_field picks_type))) false []) false) (0 ∷ 1 ∷ []) (record_of c) None

in_map : spec_union_offsets_overflow (map_with (pick (2 ^ 31) 0)) (map_with (pick 1 0)) ≡ true
in_map = refl

abbrev sized_of : Layout → Layout
sized_of c = fixed_size_list (types.fixed_size_list (field [] picks_type true []) 1) c None

in_sized : spec_union_offsets_overflow (sized_of (pick (2 ^ 31) 0)) (sized_of (pick 1 0)) ≡ true
in_sized = refl

-- the values of a dictionary array do not count
abbrev keyed_of : Layout → Layout
keyed_of c = dictionary (types.dictionary Int8 picks_type false) (primitive primitives.Int8 types.int8 ((pos 0 ∷ []) ∷ []) None) c

in_keyed : spec_union_offsets_overflow (keyed_of (pick (2 ^ 31) 0)) (keyed_of (pick 1 0)) ≡ false
in_keyed = refl

abbrev pub AreDense : Type 0
AreDense = (spec_union_offsets_overflow (pick (2 ^ 31 - 2) 0) (pick 2 1) ≡ false)
    × (spec_union_offsets_overflow (pick (2 ^ 31 - 1) 0) (pick 2 1) ≡ true)
    × (spec_union_offsets_overflow (pick (2 ^ 31) 0) (pick 1 0) ≡ true)
    × (spec_union_offsets_overflow (two_fields (2 ^ 31) 1 [] []) (two_fields 1 1 (pos 3 ∷ []) (pos 0 ∷ [])) ≡ false)
    × (spec_union_offsets_overflow (two_fields 1 (2 ^ 31) [] []) (two_fields 1 1 (pos 3 ∷ []) (pos 0 ∷ [])) ≡ true)
    × (spec_union_offsets_overflow (two_fields 1 (2 ^ 31) [] []) (two_fields 1 1 (pos 5 ∷ pos 3 ∷ []) (pos 0 ∷ pos 0 ∷ [])) ≡ true)
    × (spec_union_offsets_overflow (sparse_of (null types.null (2 ^ 31))) (sparse_of (null types.null 1)) ≡ false)
    × (spec_union_offsets_overflow (sparse_of (pick (2 ^ 31) 0)) (sparse_of (pick 1 0)) ≡ true)
    × (spec_union_offsets_overflow (union picks_type [] (more_layouts (pick (2 ^ 31) 0) no_layouts) (Some []) 0) (union picks_type [] (more_layouts (pick 1 0) no_layouts) (Some []) 0) ≡ true)
    × (spec_union_offsets_overflow (record_of (pick (2 ^ 31) 0)) (record_of (pick 1 0)) ≡ true)
    × (spec_union_offsets_overflow (row_of (pick (2 ^ 31) 0)) (row_of (pick 1 0)) ≡ true)
    × (spec_union_offsets_overflow (map_with (pick (2 ^ 31) 0)) (map_with (pick 1 0)) ≡ true)
    × (spec_union_offsets_overflow (sized_of (pick (2 ^ 31) 0)) (sized_of (pick 1 0)) ≡ true)
    × (spec_union_offsets_overflow (keyed_of (pick (2 ^ 31) 0)) (keyed_of (pick 1 0)) ≡ false)

pub are_dense : AreDense
are_dense = (last_fits, one_more, begins_past, of_other_field, of_field, second_slot, no_offset, in_sparse, in_dense, in_record, in_row, in_map, in_sized, in_keyed)
