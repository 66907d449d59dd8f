-- Empty builders.
use Rattle.std.specs.Prelude.{◌≡◌, Bool, true, false, []}
use Rattle.nest_memory.specs.TypeTree.{TypeTree, FieldTrees, no_fields, more_fields, field_type}
use Rattle.nest_memory.specs.declared.datatypes.physical_type.PrimitiveType.{PrimitiveType}
use Rattle.nest_memory.specs.declared.datatypes.physical_type.PrimitiveType.TheVariants as primitive
use Rattle.nest_model.specs.BuilderLevels.{own_slots}
use Rattle.nest_model.specs.BuilderTree.{BuilderTree, BuilderTrees, no_builders, more_builders, builder_len, builder_type}
use Rattle.nest_model.specs.BuilderComplete.{IsComplete}
use Rattle.nest_model.specs.Checks.{Pass}
use Rattle.nest_any.specs.Refusals.{nested_checks, nested_over}

-- an empty builder of that type, without values in its children
pub record IsEmptyOf (t : TypeTree) (b : BuilderTree) : Type 0 where
  pub complete : IsComplete b
  pub no_slot : own_slots b ≡ []
  pub no_row : builder_len b ≡ 0
  pub same_type : builder_type b ≡ t

-- an empty builder for each field
abbrev pub AreEmptyOf : FieldTrees → BuilderTrees → Type 0
AreEmptyOf no_fields no_builders = Unit {0}
AreEmptyOf no_fields (more_builders b bs) = ⊥
AreEmptyOf (more_fields f fs) no_builders = ⊥
AreEmptyOf (more_fields f fs) (more_builders b bs) = IsEmptyOf (field_type f) b × AreEmptyOf fs bs

-- an empty builder over any empty builder of the child type
abbrev pub HoldsEmpty : TypeTree → TypeTree → Type 0
HoldsEmpty t u = (c : BuilderTree) → IsEmptyOf u c → Pass (nested_checks t c) × IsEmptyOf t (nested_over t c)

-- floating-point types
abbrev pub is_float : PrimitiveType → Bool
is_float primitive.Float16 = true
is_float primitive.Float32 = true
is_float primitive.Float64 = true
is_float _ = false
