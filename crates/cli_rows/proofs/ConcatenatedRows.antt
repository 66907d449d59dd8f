-- Rows of concatenated arrays.
use Rattle.std.proofs.Common.{◌≡◌, inl, inr, Bool, true, false, List, [], ◌∷◌, ◌++◌, map, refl, sym, ap, ◌∙◌}
use Rattle.std.specs.Prelude.{◌⊎◌}
use Rattle.std.specs.List.{AllByRecursion, flat_map}
use Rattle.std.proofs.lemmas.List.{map-append}
use Rattle.std.proofs.lemmas.List.Concat.{flat_map-cons}
use Rattle.std.proofs.lemmas.List.Elements.{recursion_from_All}
use Rattle.nest_memory.specs.TypeEq.{same_type, same_type-decides}
use Rattle.nest_memory.specs.TypeTree.{TypeTree}
use Rattle.nest_model.specs.Layout.{Layout, layout_type}
use Rattle.nest_model.specs.Meaning.{slots_of}
use Rattle.nest_concat.specs.Joined.{AreOfOneType, IsConcatenated}
use Rattle.cli_rows.specs.Rows.{rows_of}

abbrev Typed : TypeTree → List Layout → Type 0
Typed t as_ = AllByRecursion (λ a. layout_type a ≡ t) as_

one_more : (t u : TypeTree) (rest : Type 0) (b : Bool) → same_type u t ≡ b → rest ⊎ (rest → ⊥) → ((u ≡ t) × rest) ⊎ ((u ≡ t) × rest → ⊥)
one_more t u rest true e (inl all) = inl ((same_type-decides u t).0 e, all)
one_more t u rest true e (inr none) = inr (λ all. none all.1)
one_more t u rest false e found = inr (λ all. absurd (cc (sym e ∙ (same_type-decides u t).1 all.0)))

all_typed : (t : TypeTree) (as_ : List Layout) → Typed t as_ ⊎ (Typed t as_ → ⊥)
all_typed t [] = inl tt
all_typed t (a ∷ as_) = one_more t (layout_type a) (Typed t as_) (same_type (layout_type a) t) refl (all_typed t as_)

stable : {P : Type 0} → P ⊎ (P → ⊥) → ((P → ⊥) → ⊥) → P
stable (inl p) h = p
stable (inr none) h = absurd (h none)

typed : (a : Layout) (as_ : List Layout) → ((AreOfOneType (a ∷ as_) → ⊥) → ⊥) → Typed (layout_type a) as_
typed a as_ h = stable (all_typed (layout_type a) as_) (λ none. h (λ all. none (recursion_from_All (λ b. layout_type b ≡ layout_type a) as_ all)))

rows_typed : (t : TypeTree) (as_ : List Layout) → Typed t as_ → map (λ s. (t, s)) (flat_map slots_of as_) ≡ flat_map rows_of as_
rows_typed t [] h = refl
rows_typed t (a ∷ as_) h =
    ap (map (λ s. (t, s))) (flat_map-cons slots_of a as_)
    ∙ map-append (λ s. (t, s)) (slots_of a) (flat_map slots_of as_)
    ∙ (λ w. map (λ s. (sym h.0 w, s)) (slots_of a) ++ rows_typed t as_ h.1 w)
    ∙ sym (flat_map-cons rows_of a as_)

pub rows_joined : (as_ : List Layout) (b : Layout) → ((AreOfOneType as_ → ⊥) → ⊥) → IsConcatenated as_ b → rows_of b ≡ flat_map rows_of as_
rows_joined [] b h j = absurd (h (λ none. none))
rows_joined (a ∷ as_) b h j = (λ w. map (λ s. (j.same_type w, s)) (j.slots w)) ∙ rows_typed (layout_type a) (a ∷ as_) (refl, typed a as_ h)
