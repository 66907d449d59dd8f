-- The dictionaries of the worked examples.
use Rattle.std.specs.Prelude.{ℕ, pos, Bool, false, [], ◌∷◌, Some}
use Rattle.nest_memory.specs.TypeTree as types
use Rattle.nest_memory.specs.declared.datatypes.IntegerType.TheVariants as integers
use Rattle.nest_memory.specs.declared.datatypes.physical_type.PrimitiveType.TheVariants as primitives
use Rattle.nest_model.specs.Layout as layouts
use Rattle.nest_model.specs.Layout.{Layout}

-- a dictionary of n nulls with one 8-bit key, valid or null
abbrev pub one_key : Bool → ℕ → ℕ → Layout
one_key valid k n = layouts.dictionary (types.dictionary integers.Int8 types.null false) (layouts.primitive primitives.Int8 types.int8 ((pos k ∷ []) ∷ []) (Some (valid ∷ []))) (layouts.null types.null n)
