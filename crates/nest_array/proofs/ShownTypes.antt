-- The types of the parts of a scalar's value.
use Rattle.std.specs.Prelude.{Option, Some, None}
use Rattle.std.proofs.Common.{◌≡◌, refl, ap, sym, ◌∙◌, subst}
use Rattle.nest_memory.specs.Physical.{physical_type}
use Rattle.nest_memory.specs.TypeTree as types
use Rattle.nest_memory.specs.TypeTree.{TypeTree, FieldTrees, no_fields, more_fields, item_type, fields_of, logical_type, value_type}
use Rattle.nest_memory.specs.declared.datatypes.physical_type.PhysicalType.TheVariants as physical
use Rattle.nest_memory.specs.declared.datatypes.physical_type.PrimitiveType.{PrimitiveType}
use Rattle.nest_model.specs.Accessors.{child_of, keys_of}
use Rattle.nest_model.specs.Array.{TopFits}
use Rattle.nest_model.specs.Fits.{EachType, IsLogically}
use Rattle.nest_model.specs.Layout.{Layout, Layouts, no_layouts, more_layouts, dictionary, layout_type, field_types}
use Rattle.nest_array.specs.ScalarParts.{child_types}
use Rattle.nest_array.specs.SeenScalar.{shown_type, ValueFits}
use Rattle.nest_array.specs.declared.scalar.ScalarValue.{ScalarValue}
use Rattle.nest_array.specs.declared.scalar.ScalarValue.TheVariants.{Native, List, Struct}

-- the physical type of a shown type is that of the type, unless it is a dictionary type
pub shown-native : (t : TypeTree) (k : PrimitiveType) → physical_type t ≡ physical.Primitive k → physical_type (shown_type t) ≡ physical.Primitive k
shown-native (types.dictionary l t b) k e = cc
shown-native (types.extension n t m) k e = shown-native t k e
shown-native t k e = e

pub shown-items : (t u : TypeTree) → item_type t ≡ Some u → item_type (shown_type t) ≡ Some u
shown-items (types.dictionary l t b) u e = cc
shown-items (types.extension n t m) u e = shown-items t u e
shown-items t u e = e

pub shown-fields : (t : TypeTree) → physical_type t ≡ physical.Struct → fields_of (shown_type t) ≡ fields_of t
shown-fields (types.dictionary l t b) e = cc
shown-fields (types.extension n t m) e = shown-fields t e
shown-fields t e = refl

-- children have the types of the fields
pub each-typed : (fs : FieldTrees) (cs : Layouts) → EachType fs cs → field_types fs ≡ child_types cs
each-typed no_fields no_layouts h = refl
each-typed no_fields (more_layouts c cs) h = absurd h
each-typed (more_fields f fs) no_layouts h = absurd h
each-typed (more_fields f fs) (more_layouts c cs) h = let p = h.0 in let q = each-typed fs cs h.1 in cc

-- the shown type of a dictionary type is that of its value type
shown-logical : (t : TypeTree) → shown_type (logical_type t) ≡ shown_type t
shown-logical (types.extension n t m) = shown-logical t
shown-logical t = refl

shown-value : (t u : TypeTree) → value_type t ≡ Some u → shown_type t ≡ shown_type u
shown-value (types.dictionary l t b) u e = cc
shown-value (types.extension n t m) u e = shown-value t u e
shown-value t u e = cc

shown-kept : (t u : TypeTree) (o : Option TypeTree) → value_type t ≡ o → IsLogically o u → shown_type u ≡ shown_type t
shown-kept t u None e h = absurd h
shown-kept t u (Some w) e h = sym (shown-logical u) ∙ ap shown_type h ∙ shown-logical w ∙ sym (shown-value t w e)

pub shown-keyed : (a : Layout) → TopFits a → a ≡ dictionary (layout_type a) (keys_of a) (child_of a) → shown_type (layout_type (child_of a)) ≡ shown_type (layout_type a)
shown-keyed a h e =
    let x = subst TopFits e h in
    shown-kept (layout_type a) (layout_type (child_of a)) (value_type (layout_type a)) refl x.1.1.1.0

-- a value that fits a type fits every type of the same shown type
pub fits-along : (t u : TypeTree) (v : ScalarValue) → shown_type t ≡ shown_type u → ValueFits t v → ValueFits u v
fits-along t u (Native x) e h = ap physical_type (sym e) ∙ h
fits-along t u (List a) e h = ap item_type (sym e) ∙ h
fits-along t u (Struct v) e h = ap (λ s. field_types (fields_of s)) (sym e) ∙ h
fits-along t u v e h = tt
