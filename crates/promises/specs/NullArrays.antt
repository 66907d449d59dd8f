-- What the constructors of null and empty arrays of one kind return.
use Rattle.std.specs.Prelude.{ℕ, Option, Result, MatchResult}
use Rattle.nest_memory.specs.TypeTree.{TypeTree}
use Rattle.nest_memory.specs.declared.datatypes.physical_type.PhysicalType.{PhysicalType}
use Rattle.nest_memory.specs.declared.error.Error.{Error}
use Rattle.nest_model.specs.Layout.{Layout}
use Rattle.nest_model.specs.MadeNulls.{AcceptsKind, HasNone, HasNulls, RefusesKind}

-- n nulls, exactly where the data type is of the kind and has no error; else that of its kind, then that of the type
abbrev pub IsNullArray : PhysicalType → TypeTree → ℕ → Option Error → Result Layout Error → Type 0
IsNullArray kind t n error result =
    MatchResult result (λ a. AcceptsKind kind t error × HasNulls t n a) (λ e. RefusesKind e kind t error)

-- no slot, exactly where the data type is of the kind and has no error; else that of its kind, then that of the type
abbrev pub IsEmptyArray : PhysicalType → TypeTree → Option Error → Result Layout Error → Type 0
IsEmptyArray kind t error result =
    MatchResult result (λ a. AcceptsKind kind t error × HasNone t a) (λ e. RefusesKind e kind t error)
