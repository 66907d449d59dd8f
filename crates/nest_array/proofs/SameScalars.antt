-- Equality of scalars.
use Rattle.std.specs.Prelude.{List as Seq, [], ◌∷◌, Some}
use Rattle.std.proofs.Common.{◌≡◌, ℕ, zero, suc, ◌+◌, ◌<◌, ◌≤◌, length, get_or, drop, refl, ap, sym, ◌∙◌, arith}
use Rattle.std.proofs.lemmas.List.{drop_more, drop_all}
use Rattle.nest_memory.specs.TypeTree.{TypeTree}
use Rattle.nest_model.specs.Slot as slots
use Rattle.nest_model.specs.Slot.{Slot, Slots, no_slots, more_slots, seal, node_count, count_within}
use Rattle.nest_model.specs.SlotLaws.{seal-one}
use Rattle.nest_array.specs.ScalarParts.{ScalarParts, slots_in, types_in}

list-one : (xs ys : Slots) → slots.list xs ≡ slots.list ys → xs ≡ ys
list-one xs ys e = cc

pub lists-one : (xs ys : Seq Slot) → slots.list (seal xs) ≡ slots.list (seal ys) → xs ≡ ys
lists-one xs ys e = seal-one xs ys (list-one (seal xs) (seal ys) e)

pub types-one : (t u : TypeTree) → Some t ≡ Some u → t ≡ u
types-one t u e = cc

pub slots-count : (ps qs : Seq ScalarParts) → slots_in ps ≡ slots_in qs → length ps ≡ length qs
slots-count [] [] e = refl
slots-count [] (q ∷ qs) e = cc
slots-count (p ∷ ps) [] e = cc
slots-count (p ∷ ps) (q ∷ qs) e = let h : slots_in ps ≡ slots_in qs = cc in ap suc (slots-count ps qs h)

pub type-at : (ps qs : Seq ScalarParts) (k : ℕ) (d e : ScalarParts) → types_in ps ≡ types_in qs → k < length ps → (get_or ps k d).data_type ≡ (get_or qs k e).data_type
type-at [] qs k d e h l = absurd (omega arith)
type-at (p ∷ ps) [] k d e h l = absurd (let z : (p.data_type ∷ types_in ps) ≡ [] = h in cc)
type-at (p ∷ ps) (q ∷ qs) zero d e h l = cc
type-at (p ∷ ps) (q ∷ qs) (suc k) d e h l = let t : types_in ps ≡ types_in qs = cc in type-at ps qs k d e t (omega arith)

pub nodes-at : (ps : Seq ScalarParts) (k : ℕ) (d : ScalarParts) → k < length ps → node_count (get_or ps k d).slot ≤ count_within (slots_in ps)
nodes-at [] k d h = absurd (omega arith)
nodes-at (p ∷ ps) zero d h = omega arith
nodes-at (p ∷ ps) (suc k) d h = omega (arith, nodes-at ps k d (omega arith))

pub slots-more : (ps : Seq ScalarParts) (k : ℕ) (d : ScalarParts) → d ≡ get_or ps k d → k < length ps → slots_in (drop k ps) ≡ more_slots d.slot (slots_in (drop (k + 1) ps))
slots-more ps k d e h = ap slots_in (drop_more ps k d h) ∙ ap (λ p. more_slots p.slot (slots_in (drop (k + 1) ps))) (sym e)

pub slots-none : (ps : Seq ScalarParts) (k : ℕ) → length ps ≤ k → slots_in (drop k ps) ≡ no_slots
slots-none ps k h = ap slots_in (drop_all k ps h)
