-- The arrays of this crate's worked examples.
use Rattle.std.specs.Prelude.{ℕ, ℤ, pos, false, List, [], ◌∷◌, Some, None}
use Rattle.nest_memory.specs.TypeTree as types
use Rattle.nest_memory.specs.declared.datatypes.UnionMode.TheVariants as modes
use Rattle.nest_model.specs.Examples.{a_field, both, ints, one_field, texts, two_fields}
use Rattle.nest_model.specs.Layout as layouts
use Rattle.nest_model.specs.Layout.{Layout, more_layouts, no_layouts}

-- maps of numbers to strings, with the offsets of the maps and of the strings
abbrev pub text_maps : List ℕ → List ℕ → Layout
text_maps os texts_at =
    let entries = types.struct (two_fields types.int32 types.utf8) in
    layouts.map (types.map (a_field entries) false) os (layouts.struct entries (both (ints []) (texts texts_at [])) None) None

-- a dense union of numbers and strings
abbrev pub dense_texts : List ℤ → List ℤ → List ℕ → Layout
dense_texts ks os texts_at = layouts.union (types.union (two_fields types.int32 types.utf8) None modes.Dense) ks (both (ints []) (texts texts_at [])) (Some os) 0

-- a sparse union of strings, of one row that starts at 1
abbrev pub sparse_texts : List ℕ → Layout
sparse_texts texts_at = layouts.union (types.union (one_field types.utf8) None modes.Sparse) (pos 0 ∷ []) (more_layouts (texts texts_at []) no_layouts) None 1

-- a dense union of fields 0, 1 and 0 at the offsets 5, 6 and 7
abbrev pub three_unions : Layout
three_unions =
    let t = types.union (two_fields types.int32 types.utf8) None modes.Dense in
    layouts.union t (pos 0 ∷ pos 1 ∷ pos 0 ∷ []) no_layouts (Some (pos 5 ∷ pos 6 ∷ pos 7 ∷ [])) 0
