-- Which data types have flat values, and the indices of keys.
use Rattle.std.specs.Prelude.{◌⊎◌, ◌↔◌, IsTrue, Option, None, Some, ℕ, ℤ, pos, negsuc}
use Rattle.std.proofs.Common.{◌≡◌, true, false, refl, ap, sym, ◌∙◌, inl, inr}
use Rattle.nest_array.specs.Keys.{index_of}
use Rattle.nest_array.proofs.LogicalTypes.{same-physical}
use Rattle.nest_memory.specs.Physical.{physical_type}
use Rattle.nest_memory.specs.TypeTree as types
use Rattle.nest_memory.specs.TypeTree.{TypeTree}
use Rattle.nest_memory.specs.declared.datatypes.physical_type.PhysicalType.{PhysicalType}
use Rattle.nest_model.specs.Fits.{IsLogically, is_dictionary}
use Rattle.nest_any.specs.Refusals.{AreFlat, IsOfLists, is_flat}

pub lists-not_flat : (p : PhysicalType) → IsOfLists p → is_flat p ≡ false
lists-not_flat p (inl e) = ap is_flat e
lists-not_flat p (inr (inl e)) = ap is_flat e
lists-not_flat p (inr (inr e)) = ap is_flat e

pub keyed-not_flat : (t : TypeTree) → IsTrue (is_dictionary t) → is_flat (physical_type t) ≡ false
keyed-not_flat (types.dictionary k u b) h = refl
keyed-not_flat (types.extension n u m) h = keyed-not_flat u h
keyed-not_flat t h = cc

-- a type with the logical type of flat values is flat
pub logically-flat : (o : Option TypeTree) (u : TypeTree) → AreFlat o → IsLogically o u → is_flat (physical_type u) ≡ false → ⊥
logically-flat None u h l n = absurd h
logically-flat (Some t) u h l n =
    let e = ap is_flat (same-physical u t l) ∙ h in
    let x = sym e ∙ n in
    cc

-- a key is the index equal to its number
pub index-of : (z : ℤ) (r : Option ℕ) (k : ℕ) → r ≡ index_of z → (r ≡ Some k) ↔ (Some z ≡ Some (pos k))
index-of (pos n) r k e = (λ h. let x = sym e ∙ h in cc, λ h. e ∙ (let x = h in cc))
index-of (negsuc n) r k e = (λ h. let x = sym e ∙ h in cc, λ h. cc)
