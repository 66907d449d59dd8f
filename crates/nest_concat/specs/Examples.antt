-- The unions of the worked examples.
use Rattle.std.specs.Prelude.{ℕ, ℤ, pos, true, false, List, [], ◌∷◌, Some, None}
use Rattle.nest_memory.specs.TypeTree as types
use Rattle.nest_memory.specs.declared.datatypes.UnionMode.TheVariants as modes
use Rattle.nest_model.specs.Examples.{both, booleans, dictionaries, ints, texts, two_fields}
use Rattle.nest_model.specs.Layout as layouts
use Rattle.nest_model.specs.Layout.{Layout}

-- four numbers
abbrev pub four : Layout
four = ints (4 ∷ 5 ∷ 6 ∷ 7 ∷ [])

-- unions of two fields of four numbers: sparse, with these type ids and this start; dense, with these type ids and
-- offsets
abbrev pub sparse_from : ℕ → List ℤ → Layout
sparse_from start ks = layouts.union (types.union (two_fields types.int32 types.int32) None modes.Sparse) ks (both four four) None start

abbrev pub dense : List ℤ → List ℤ → Layout
dense ks os = layouts.union (types.union (two_fields types.int32 types.int32) None modes.Dense) ks (both four four) (Some os) 0

-- the same dense union of three rows, in the fields 0, 1 and 0
abbrev pub dense_in_turn : List ℤ → Layout
dense_in_turn os = dense (pos 0 ∷ pos 1 ∷ pos 0 ∷ []) os

-- a struct of two numbers and two Booleans
abbrev pub two_columns : Layout
two_columns = layouts.struct (types.struct (two_fields types.int32 types.boolean)) (both (ints (5 ∷ 6 ∷ [])) (booleans (true ∷ false ∷ []))) None

-- a dictionary of "a" and "b" by these keys
abbrev pub ab_by : List ℕ → Layout
ab_by keys = dictionaries keys None (texts (0 ∷ 1 ∷ 2 ∷ []) (97 ∷ 98 ∷ []))

-- "b" and null, with the key 7 under the null
abbrev pub b_and_null : Layout
b_and_null = dictionaries (1 ∷ 7 ∷ []) (Some (true ∷ false ∷ [])) (texts (0 ∷ 1 ∷ 2 ∷ []) (97 ∷ 98 ∷ []))
