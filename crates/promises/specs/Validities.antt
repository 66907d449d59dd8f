-- What the functions that replace a validity do.
use Rattle.std.specs.Prelude.{◌≡◌, ◌⊎◌, Result, MatchResult, alloc_error}
use Rattle.nest_array.specs.Seen.{layout_of}
use Rattle.nest_array.specs.declared.any.AnyArray.{AnyArray}
use Rattle.nest_memory.specs.declared.error.Error.{Error}
use Rattle.nest_memory.specs.declared.error.Error.TheVariants.{Memory}
use Rattle.nest_model.specs.Accessors.{with_validity}
use Rattle.nest_model.specs.Checks.{Pass}
use Rattle.nest_model.specs.Fits.{ValidityError, validity_checks}
use Rattle.nest_model.specs.Layout.{Layout}
use Rattle.nest_model.specs.Part.{Validity}

-- in place: the validity has no error and replaces the old one; or its first error is returned and nothing changes
abbrev pub SetsValidity : {A : Type 0} → Layout → Validity → Layout → Result A Error → Type 0
SetsValidity old validity new result = MatchResult result
    (λ _. Pass (validity_checks old validity) × (new ≡ with_validity old validity))
    (λ e. ValidityError e old validity × (new ≡ old))

-- of a copy: the array under the validity, which has no error; or its first error, or a failed allocation
abbrev pub IsUnderValidity : Layout → Validity → Result AnyArray Error → Type 0
IsUnderValidity a validity result = MatchResult result
    (λ b. Pass (validity_checks a validity) × (layout_of b ≡ with_validity a validity))
    (λ e. ValidityError e a validity ⊎ (e ≡ Memory alloc_error))
