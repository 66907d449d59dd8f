-- The dictionary ids that are not nested in the value type of another: each id is followed by those nested in its value type.
use Rattle.std.proofs.Common.{◌≡◌, ℕ, zero, suc, ◌≤◌, List, [], ◌∷◌, length, drop, Option, Some, None, refl, ap, arith}
use Rattle.std.specs.Prelude.{ℤ}
use Rattle.std.specs.BTreeMap.{is_at}
use Rattle.std.specs.Map.{lookup}
use Rattle.std.specs.Ordering.{int_cmp}
use Rattle.std.proofs.lemmas.List.{length-drop}
use Rattle.ipc_schema.specs.Dictionaries.{ValueTypeModel}

-- ids and their value types
abbrev pub ValueTypes : Type 0
ValueTypes = List (ℤ × ValueTypeModel)

abbrev pub nested_count : Option ValueTypeModel → ℕ
nested_count None = 0
nested_count (Some v) = length v.inside

-- the number of ids that are nested in the value type of an id
abbrev pub spec_count_nested : ValueTypes → ℤ → ℕ
spec_count_nested named id = nested_count (lookup (is_at (int_cmp id)) named)

-- at most n of them
unfoldable pub outermost_within : ℕ → ValueTypes → List ℤ → List ℤ
outermost_within zero named ids = []
outermost_within (suc n) named [] = []
outermost_within (suc n) named (id ∷ ids) = id ∷ outermost_within n named (drop (spec_count_nested named id) ids)

-- the ids, of ids in pre-order, that are not nested in the value type of another
abbrev pub spec_outermost_ids : ValueTypes → List ℤ → List ℤ
spec_outermost_ids named ids = outermost_within (length ids) named ids

-- ---- laws

-- the bound does not matter
enough : (n m : ℕ) (named : ValueTypes) (ids : List ℤ) → length ids ≤ n → length ids ≤ m → outermost_within n named ids ≡ outermost_within m named ids
unfolding outermost_within
enough zero zero named ids a b = refl
enough zero (suc m) named [] a b = refl
enough zero (suc m) named (id ∷ ids) a b = absurd (omega (arith, a))
enough (suc n) zero named [] a b = refl
enough (suc n) zero named (id ∷ ids) a b = absurd (omega (arith, b))
enough (suc n) (suc m) named [] a b = refl
enough (suc n) (suc m) named (id ∷ ids) a b =
    let k : ℕ = spec_count_nested named id in
    let long = length-drop k ids in
    ap (λ (l : List ℤ). id ∷ l) (enough n m named (drop k ids) (omega (arith, a, long)) (omega (arith, b, long)))

pub no_outermost_ids : (named : ValueTypes) → spec_outermost_ids named [] ≡ []
unfolding outermost_within
no_outermost_ids named = refl

-- the first id, then those after the ids nested in its value type
pub outermost_first : (named : ValueTypes) (id : ℤ) (ids : List ℤ) → spec_outermost_ids named (id ∷ ids) ≡ id ∷ spec_outermost_ids named (drop (spec_count_nested named id) ids)
unfolding outermost_within
outermost_first named id ids =
    let k : ℕ = spec_count_nested named id in
    let long = length-drop k ids in
    ap (λ (l : List ℤ). id ∷ l) (enough (length ids) (length (drop k ids)) named (drop k ids) (omega (arith, long)) (omega arith))
