-- Builders of fixed-size binary arrays: the array so far, and the array after each call.
use Rattle.std.specs.Prelude.{◌≡◌, ◌≢◌, ℕ, ◌/◌, List, [], ◌∷◌, ◌++◌, length, map, take, drop, replicate, Option, Some, None, is_some}
use Rattle.std.specs.Borrow.{Bor}
use Rattle.std.specs.List.{All}
use Rattle.std.specs.Option.{option_copied}
use Rattle.nest_memory.specs.TypeTree as types
use Rattle.nest_memory.specs.TypeTree.{size_of}
use Rattle.nest_model.specs.BuilderInput.{Begins}
use Rattle.nest_model.specs.Layout.{Layout, fixed_size_binary, layout_type}
use Rattle.nest_model.specs.Meaning.{slots_of}
use Rattle.nest_model.specs.Slot as slots
use Rattle.nest_flat.specs.FlatParts.{optional}
use Rattle.nest_flat.specs.Growth.{is_masked, pushed_validity, joined_validity}
use Rattle.nest_flat.specs.Slices.{has_null}

-- the bytes of an item: zeros for a null
abbrev pub sized_bytes : ℕ → Option (List ℕ) → List ℕ
sized_bytes size None = replicate size 0
sized_bytes size (Some xs) = xs

-- Fixed-Size Primitive Layout: the array after one more item
abbrev pub pushed_bytes : Layout → Option (List ℕ) → Layout
pushed_bytes (fixed_size_binary t bs va) x = fixed_size_binary t (bs ++ sized_bytes (size_of t) x) (pushed_validity va (length bs / size_of t) (is_some x))
pushed_bytes a x = a

-- Fixed-Size Primitive Layout: the array after appending another one of the same size
abbrev pub joined_bytes : Layout → Layout → Layout
joined_bytes (fixed_size_binary t bs va) (fixed_size_binary u cs vb) = fixed_size_binary t (bs ++ cs) (joined_validity va (length bs / size_of t) vb (length cs / size_of u))
joined_bytes a b = a

-- the item has another size
abbrev pub IsOtherSize : ℕ → Option (List ℕ) → Type 0
IsOtherSize size None = ⊥
IsOtherSize size (Some xs) = length xs ≢ size

-- the array with ws in place of its first bytes, its length unchanged
abbrev pub with_bytes : Layout → List ℕ → Layout
with_bytes (fixed_size_binary t bs va) ws = fixed_size_binary t (take (length bs) (ws ++ drop (length ws) bs)) va
with_bytes a ws = a

-- a is the fixed-size binary array of these items: it has a validity exactly if an item is null
pub record IsMadeOf (size : ℕ) (xs : List (Option (List ℕ))) (a : Layout) : Type 0 where
  pub typed : layout_type a ≡ types.fixed_size_binary size
  pub spelled : slots_of a ≡ map (optional slots.bytes) xs
  pub masked : is_masked a ≡ has_null xs
  pub sized : All (λ x. ¬ IsOtherSize size x) xs

-- u yields some items of the size, then one of another size
abbrev pub GivesOtherSize : {U T : Type 0} → (U → T → Type 0) → (T → Option (Option (Bor (List ℕ))) → T → Type 0) → ℕ → U → Type 0
GivesOtherSize becomes steps size u =
    (front : List (Option (Bor (List ℕ)))) × (next : Option (Bor (List ℕ))) × Begins becomes steps u (front ++ next ∷ []) × All (λ x. ¬ IsOtherSize size (option_copied x)) front × IsOtherSize size (option_copied next)
