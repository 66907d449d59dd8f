-- What an iterator with remaining slots returns.
use Rattle.std.specs.Prelude.{◌≡◌, ◌+◌, ◌-◌, ℕ, Bool, true, false, Option, Result, MatchOption, MatchResult, alloc_error}
use Rattle.nest_memory.specs.declared.error.ArgumentError.TheVariants.{ValuesType}
use Rattle.nest_memory.specs.declared.error.Error.{Error}
use Rattle.nest_memory.specs.declared.error.Error.TheVariants.{InvalidArgumentError, Memory}
use Rattle.nest_model.specs.Accessors.{child_of}
use Rattle.nest_model.specs.Layout.{Layout}
use Rattle.nest_model.specs.Nullness.{is_null_at}
use Rattle.nest_scan.specs.Elements.{ElementsLeft}
use Rattle.nest_scan.specs.Items.{AreTexts}

-- an item that satisfies P, or the error of a failed allocation
abbrev pub IsItemOrError : {A : Type 0} → Option (Result A Error) → (A → Type 0) → Type 0
IsItemOrError item P = MatchOption item ⊥ (λ r. MatchResult r P (λ e. e ≡ Memory alloc_error))

-- None exactly where the slot at i is null, else a value that satisfies P
abbrev pub IsNoneOrValue : {A : Type 0} → Layout → ℕ → Option A → (A → Type 0) → Type 0
IsNoneOrValue a i item P = MatchOption item (is_null_at a i ≡ true) (λ x. (is_null_at a i ≡ false) × P x)

-- the values of the dictionary are no UTF-8 with offsets of this width, which is the error
abbrev pub HasOtherValues : Bool → Layout → Error → Type 0
HasOtherValues large a e = (AreTexts large (child_of a) → ⊥) × (e ≡ InvalidArgumentError ValuesType)

-- the index of the last remaining slot
abbrev pub last_index : ElementsLeft → ℕ
last_index left = left.front + (left.count - 1)
