-- Ordered checks of a call, each with the error it returns. The definitions are this library's own.
use Rattle.std.specs.Prelude.{◌≡◌, ◌⊎◌, ℕ, ◌-◌, ◌^◌, Bool, true, false, nat_eq, nat_lt, Option, Some, None, if◌then◌else◌}
use Rattle.nest_memory.specs.declared.error.SpecError.{SpecError}
use Rattle.nest_memory.specs.declared.error.SpecError.TheVariants as spec
use Rattle.nest_memory.specs.declared.error.ArgumentError.{ArgumentError}
use Rattle.nest_memory.specs.declared.error.ArgumentError.TheVariants as argument
use Rattle.nest_memory.specs.declared.error.Error.{Error}
use Rattle.nest_memory.specs.declared.error.Error.TheVariants.{OutOfSpec, InvalidArgumentError, Overflow, NotYetImplemented, Memory}

-- A number for each error. Different errors have different numbers.
abbrev pub spec_number : SpecError → ℕ
spec_number spec.WrongType = 0
spec_number spec.ZeroSize = 1
spec_number spec.ChildType = 2
spec_number spec.NotMultiple = 3
spec_number spec.ValidityLength = 4
spec_number spec.OffsetPastChild = 5
spec_number spec.NoFields = 6
spec_number spec.FieldCount = 7
spec_number spec.ChildLength = 8
spec_number spec.TooManyFields = 9
spec_number spec.OffsetCount = 10
spec_number spec.UnionMode = 11
spec_number spec.IdCount = 12
spec_number spec.IdRange = 13
spec_number spec.UnionType = 14
spec_number spec.UnionSlot = 15
spec_number spec.KeyType = 16
spec_number spec.KeyRange = 17
spec_number spec.Offsets = 18
spec_number spec.Utf8 = 19

abbrev pub argument_number : ArgumentError → ℕ
argument_number argument.ChildType = 20
argument_number argument.MapInner = 21
argument_number argument.NoValidity = 22
argument_number argument.ItemSize = 23
argument_number argument.ItemType = 24
argument_number argument.Incomplete = 25
argument_number argument.LengthsSum = 26
argument_number argument.ValuesType = 27
argument_number argument.ChildNotEmpty = 28

abbrev pub error_number : Error → ℕ
error_number (OutOfSpec s) = spec_number s
error_number (InvalidArgumentError a) = argument_number a
error_number Overflow = 29
error_number NotYetImplemented = 30
error_number (Memory e) = 31

-- Ordered checks: the error of each, and the condition it checks.
pub data Checks : Type 1 where
  done : Checks
  check : Error → Type 0 → Checks → Checks

-- Every check passes.
abbrev pub Pass : Checks → Type 0
Pass done = Unit {0}
Pass (check e p cs) = p × Pass cs

-- This check fails, or it passes and the remaining ones satisfy `rest`.
abbrev pub FailsOr : Bool → Type 0 → Type 0 → Type 0
FailsOr true p rest = ¬ p
FailsOr false p rest = p × rest

-- The first check that fails has this error.
abbrev pub FailFirst : Error → Checks → Type 0
FailFirst f done = ⊥
FailFirst f (check e p cs) = FailsOr (nat_eq (error_number f) (error_number e)) p (FailFirst f cs)

-- Exactly one outcome: every check passes, or exactly one error is that of the first check that fails.
abbrev pub HaveOneOutcome : Checks → Type 0
HaveOneOutcome cs =
    (Pass cs ⊎ ((e : Error) × FailFirst e cs))
    × ((e f : Error) → FailFirst e cs → FailFirst f cs → e ≡ f)
    × ((e : Error) → Pass cs → FailFirst e cs → ⊥)

-- A computed check: this error if the test is true, otherwise the result of the later checks.
abbrev pub refuse_if : Bool → Error → Option Error → Option Error
refuse_if b e rest = if b then Some e else rest

-- The error of the first checks, otherwise that of the later ones.
abbrev pub first_of : Option Error → Option Error → Option Error
first_of None rest = rest
first_of (Some e) rest = Some e

-- The largest length. Lengths have 64 bits.
abbrev pub largest_length : ℕ
largest_length = 2 ^ 64 - 1

-- Union Layout: the number of type ids, which are nonnegative 8-bit integers, and the largest number of fields.
abbrev pub type_count : ℕ
type_count = 128

abbrev pub most_fields : ℕ
most_fields = 127

-- Union Layout, dense: the largest length for which consecutive indices are 32-bit offsets.
abbrev pub most_picks : ℕ
most_picks = 2 ^ 31

abbrev pub is_past : ℕ → Bool
is_past n = nat_lt largest_length n
