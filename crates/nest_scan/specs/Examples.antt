-- Definitions of the worked examples.
use Rattle.std.specs.Prelude.{◌≡◌, ℕ, true, false, [], ◌∷◌, Some}
use Rattle.nest_memory.specs.TypeTree as types
use Rattle.nest_model.specs.Layout as layouts
use Rattle.nest_model.specs.Layout.{Layout}

-- the item of a slot is its index
abbrev pub IsElement : Layout → ℕ → ℕ → Type 0
IsElement a i x = x ≡ i

-- two Booleans, of which the second is null
abbrev pub second_null : Layout
second_null = layouts.boolean types.boolean (true ∷ true ∷ []) (Some (true ∷ false ∷ []))
