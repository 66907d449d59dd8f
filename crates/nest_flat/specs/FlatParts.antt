-- The checks and the slots common to flat arrays (this library's own).
use Rattle.std.specs.Prelude.{◌≡◌, ℕ, ◌≤◌, not, length, count_by, Option, Some, None}
use Rattle.nest_memory.specs.TypeTree.{TypeTree}
use Rattle.nest_memory.specs.Physical.{physical_type}
use Rattle.nest_memory.specs.declared.datatypes.physical_type.PhysicalType.{PhysicalType}
use Rattle.nest_memory.specs.declared.error.Error.TheVariants.{OutOfSpec}
use Rattle.nest_memory.specs.declared.error.SpecError.TheVariants as spec
use Rattle.nest_model.specs.Part.{Validity}
use Rattle.nest_model.specs.Checks.{Checks, done, check}
use Rattle.nest_model.specs.Fits.{ValidityFits}
use Rattle.nest_model.specs.Slot as slots
use Rattle.nest_model.specs.Slot.{Slot}

-- a validity has at least n bits
abbrev pub ValidityCovers : Validity → ℕ → Type 0
ValidityCovers None n = Unit {0}
ValidityCovers (Some bits) n = n ≤ length bits

-- the number of its bits that are 0
abbrev pub unset_count : Validity → ℕ
unset_count None = 0
unset_count (Some bits) = count_by not bits

-- the last checks of every flat array of n slots
abbrev pub flat_checks : Validity → ℕ → TypeTree → PhysicalType → Checks
flat_checks va n t p =
    check (OutOfSpec spec.ValidityLength) (ValidityFits va n)
    (check (OutOfSpec spec.WrongType) (physical_type t ≡ p) done)

-- null, or the slot that a value represents
abbrev pub optional : {A : Type 0} → (A → Slot) → Option A → Slot
optional f None = slots.null
optional f (Some x) = f x
