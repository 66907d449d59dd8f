-- The indices that a mask with one more slot selects.
use Rattle.std.specs.Prelude.{true, if◌then◌else◌, Option, Some, None, unwrap_or}
use Rattle.nest_flat.specs.FlatParts.{optional}
use Rattle.std.proofs.Common.{◌≡◌, ℕ, zero, suc, ◌+◌, ◌<◌, Bool, false, List, [], ◌∷◌, ◌++◌, length, take, get_or, refl, ap, sym, ◌∙◌, arith}
use Rattle.nest_model.specs.Selected.{indices_from, mask_indices}
use Rattle.nest_model.specs.Slot as slots
use Rattle.nest_model.specs.Slot.{Slot}

from-more : (k i : ℕ) (ss : List Slot) → i < length ss → indices_from k (take (suc i) ss) ≡ indices_from k (take i ss) ++ indices_from (k + i) (get_or ss i slots.null ∷ [])
from-more k i [] h = absurd (omega arith)
from-more k zero (s ∷ ss) h = let e : k ≡ k + 0 = omega arith in ap (λ z. indices_from z (s ∷ [])) e
from-more k (suc i) (slots.boolean true ∷ ss) h =
    let e : suc k + i ≡ k + suc i = omega arith in
    ap (◌∷◌ k) (from-more (suc k) i ss (omega arith) ∙ ap (λ z. indices_from (suc k) (take i ss) ++ indices_from z (get_or ss i slots.null ∷ [])) e)
from-more k (suc i) (s ∷ ss) h =
    let e : suc k + i ≡ k + suc i = omega arith in
    from-more (suc k) i ss (omega arith) ∙ ap (λ z. indices_from (suc k) (take i ss) ++ indices_from z (get_or ss i slots.null ∷ [])) e

pub mask-more : (i : ℕ) (ss : List Slot) → i < length ss → mask_indices (take (i + 1) ss) ≡ mask_indices (take i ss) ++ indices_from i (get_or ss i slots.null ∷ [])
mask-more i ss h =
    let e : i + 1 ≡ suc i = omega arith in
    let z : 0 + i ≡ i = omega arith in
    ap (λ n. mask_indices (take n ss)) e ∙ from-more 0 i ss h ∙ ap (λ n. mask_indices (take i ss) ++ indices_from n (get_or ss i slots.null ∷ [])) z

-- one more slot, true or not
mask-step : (o : Option Bool) (b : Bool) (ps : List ℕ) (i : ℕ) (ss : List Slot) → i < length ss → optional (λ x. slots.boolean x) o ≡ get_or ss i slots.null → b ≡ unwrap_or o false
    → ps ≡ mask_indices (take i ss) → (if b then ps ++ i ∷ [] else ps) ≡ mask_indices (take (i + 1) ss)
mask-step o b ps i ss h e f g =
    ap (λ d. if d then ps ++ i ∷ [] else ps) f
    ∙ one o
    ∙ ap (λ z. z ++ indices_from i (optional (λ x. slots.boolean x) o ∷ [])) g
    ∙ ap (λ z. mask_indices (take i ss) ++ indices_from i (z ∷ [])) e
    ∙ sym (mask-more i ss h)
  where
    whole : (xs : List ℕ) → xs ≡ xs ++ []
    whole [] = refl
    whole (x ∷ xs) = ap (◌∷◌ x) (whole xs)

    one : (o : Option Bool) → (if unwrap_or o false then ps ++ i ∷ [] else ps) ≡ ps ++ indices_from i (optional (λ x. slots.boolean x) o ∷ [])
    one None = whole ps
    one (Some true) = refl
    one (Some false) = whole ps

pub mask-yes : (o : Option Bool) (b : Bool) (ps : List ℕ) (i : ℕ) (ss : List Slot) → i < length ss → optional (λ x. slots.boolean x) o ≡ get_or ss i slots.null → b ≡ unwrap_or o false
    → ps ≡ mask_indices (take i ss) → b ≡ true → ps ++ i ∷ [] ≡ mask_indices (take (i + 1) ss)
mask-yes o b ps i ss h e f g t = ap (λ d. if d then ps ++ i ∷ [] else ps) (sym t) ∙ mask-step o b ps i ss h e f g

pub mask-no : (o : Option Bool) (b : Bool) (ps : List ℕ) (i : ℕ) (ss : List Slot) → i < length ss → optional (λ x. slots.boolean x) o ≡ get_or ss i slots.null → b ≡ unwrap_or o false
    → ps ≡ mask_indices (take i ss) → b ≡ false → ps ≡ mask_indices (take (i + 1) ss)
mask-no o b ps i ss h e f g t = ap (λ d. if d then ps ++ i ∷ [] else ps) (sym t) ∙ mask-step o b ps i ss h e f g

pub mask-all : (n : ℕ) (ss : List Slot) → n ≡ length ss → mask_indices (take n ss) ≡ mask_indices ss
mask-all n ss e = ap (λ k. mask_indices (take k ss)) e ∙ ap mask_indices (whole ss)
  where
    whole : (xs : List Slot) → take (length xs) xs ≡ xs
    whole [] = refl
    whole (x ∷ xs) = ap (◌∷◌ x) (whole xs)
