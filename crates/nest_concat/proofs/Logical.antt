-- Data types that are equal but for outer extension types.
use Rattle.std.proofs.Common.{◌≡◌, refl, ap, sym, ◌∙◌}
use Rattle.nest_memory.specs.Physical.{physical_type}
use Rattle.nest_memory.specs.TypeTree.{TypeTree, logical_type, item_type, fields_of, size_of, has_pairs, value_type, ids_of, is_dense, extension}
use Rattle.nest_memory.specs.declared.datatypes.physical_type.PhysicalType.{PhysicalType}

physical-through : (t : TypeTree) → physical_type (logical_type t) ≡ physical_type t
physical-through (extension n t m) = physical-through t
physical-through t = refl

item-through : (t : TypeTree) → item_type (logical_type t) ≡ item_type t
item-through (extension n t m) = item-through t
item-through t = refl

fields-through : (t : TypeTree) → fields_of (logical_type t) ≡ fields_of t
fields-through (extension n t m) = fields-through t
fields-through t = refl

size-through : (t : TypeTree) → size_of (logical_type t) ≡ size_of t
size-through (extension n t m) = size-through t
size-through t = refl

pairs-through : (t : TypeTree) → has_pairs (logical_type t) ≡ has_pairs t
pairs-through (extension n t m) = pairs-through t
pairs-through t = refl

ids-through : (t : TypeTree) → ids_of (logical_type t) ≡ ids_of t
ids-through (extension n t m) = ids-through t
ids-through t = refl

dense-through : (t : TypeTree) → is_dense (logical_type t) ≡ is_dense t
dense-through (extension n t m) = dense-through t
dense-through t = refl

value-through : (t : TypeTree) → value_type (logical_type t) ≡ value_type t
value-through (extension n t m) = value-through t
value-through t = refl

-- a type of the same logical type is of the same kind
pub kind-alike : (t u : TypeTree) (p : PhysicalType) → logical_type t ≡ logical_type u → physical_type u ≡ p → physical_type t ≡ p
kind-alike t u p e h = sym (physical-through t) ∙ ap physical_type e ∙ physical-through u ∙ h

pub item-alike : (t u : TypeTree) → logical_type t ≡ logical_type u → item_type t ≡ item_type u
item-alike t u e = sym (item-through t) ∙ ap item_type e ∙ item-through u

pub fields-alike : (t u : TypeTree) → logical_type t ≡ logical_type u → fields_of t ≡ fields_of u
fields-alike t u e = sym (fields-through t) ∙ ap fields_of e ∙ fields-through u

pub size-alike : (t u : TypeTree) → logical_type t ≡ logical_type u → size_of t ≡ size_of u
size-alike t u e = sym (size-through t) ∙ ap size_of e ∙ size-through u

pub pairs-alike : (t u : TypeTree) → logical_type t ≡ logical_type u → has_pairs t ≡ has_pairs u
pairs-alike t u e = sym (pairs-through t) ∙ ap has_pairs e ∙ pairs-through u

pub ids-alike : (t u : TypeTree) → logical_type t ≡ logical_type u → ids_of t ≡ ids_of u
ids-alike t u e = sym (ids-through t) ∙ ap ids_of e ∙ ids-through u

pub dense-alike : (t u : TypeTree) → logical_type t ≡ logical_type u → is_dense t ≡ is_dense u
dense-alike t u e = sym (dense-through t) ∙ ap is_dense e ∙ dense-through u

pub value-alike : (t u : TypeTree) → logical_type t ≡ logical_type u → value_type t ≡ value_type u
value-alike t u e = sym (value-through t) ∙ ap value_type e ∙ value-through u
