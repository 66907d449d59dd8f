-- Flat arrays that are made of null slots, and new validities of them.
use Rattle.std.specs.Prelude.{◌≡◌, ℕ}
use Rattle.nest_memory.specs.TypeTree.{TypeTree}
use Rattle.nest_memory.specs.declared.datatypes.physical_type.PhysicalType.{PhysicalType}
use Rattle.nest_model.specs.declared.fill.Fill.{Fill}
use Rattle.nest_model.specs.Part.{Validity}
use Rattle.nest_model.specs.Layout.{Layout}
use Rattle.nest_model.specs.Accessors.{with_validity}
use Rattle.nest_model.specs.Meaning.{len}
use Rattle.nest_model.specs.Fits.{ValidityFits}
use Rattle.nest_model.specs.Nulls.{error_of}
use Rattle.nest_model.specs.NullLayout.{null_array}
use Rattle.nest_model.specs.MadeNulls.{AcceptsKind}

-- the array of n null slots of this kind, or its empty array
abbrev pub IsNewArray : PhysicalType → TypeTree → ℕ → Fill → Layout → Type 0
IsNewArray k t n fill a = AcceptsKind k t (error_of t n fill) × (a ≡ null_array t n fill)

-- the validity has a bit for each slot of a, and b is a with this validity
abbrev pub ReplacesValidity : Layout → Validity → Layout → Type 0
ReplacesValidity a va b = ValidityFits va (len a) × (b ≡ with_validity a va)
