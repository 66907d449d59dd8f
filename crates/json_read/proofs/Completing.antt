-- Nulls for the children that no member came to.
use Rattle.std.specs.Prelude.{◌==◌}
use Rattle.std.proofs.Common.{◌≡◌, ℕ, zero, suc, ◌+◌, ◌<◌, ◌≤◌, false, List, [], ◌∷◌, length, get_or, set, refl, sym, ap, ◌∙◌, arith, inl, inr}
use Rattle.std.proofs.lemmas.Bool.Decides.{eqb_tells}
use Rattle.json_read.proofs.Feeding.{eqb-same}
use Rattle.nest_any.specs.Each.{each}
use Rattle.json_read.specs.StructMembers.{AddedIf, NullsAdded}
use Rattle.json_read.specs.SlotAdded.{SlotAdded}
use Rattle.nest_model.specs.BuilderAppend.{Accepted}
use Rattle.nest_model.specs.BuilderAppendLaws.{type-accepted}
use Rattle.nest_model.specs.BuilderItem as items
use Rattle.nest_model.specs.BuilderAddRow.{AreEachComplete}
use Rattle.nest_model.specs.BuilderTree.{BuilderTree, builder_len}
use Rattle.nest_model.specs.BuilderComplete.{IsComplete}
use Rattle.nest_model.specs.Slot as slots

pub added-null : (c d : BuilderTree) → Accepted items.null c d → SlotAdded slots.null c d
added-null c d h = record { last = h.last; complete = h.complete; same_type = type-accepted items.null c d h }

module _ {A : Type 0} (f : A → BuilderTree) where
  pub completed-all : (n : ℕ) (xs ys : List A) → length ys ≡ length xs → ((k : ℕ) (d : A) → k < length xs → AddedIf (builder_len (f (get_or xs k d)) == n) slots.null (f (get_or xs k d)) (f (get_or ys k d)))
      → NullsAdded n (each f xs) (each f ys)
  completed-all n [] [] e h = tt
  completed-all n [] (y ∷ ys) e h = absurd (omega (arith, e))
  completed-all n (x ∷ xs) [] e h = absurd (omega (arith, e))
  completed-all n (x ∷ xs) (y ∷ ys) e h = (h zero x (omega arith), completed-all n xs ys (omega (arith, e)) (λ k d l. h (suc k) d (omega (arith, l))))

  -- the child at index i was replaced, those after it are as they were
  pub next-done : (n : ℕ) (xs ys : List A) (i : ℕ) (y e : A) → length ys ≡ length xs → i < length xs
      → ((k : ℕ) (d : A) → k < i → AddedIf (builder_len (f (get_or xs k d)) == n) slots.null (f (get_or xs k d)) (f (get_or ys k d)))
      → AddedIf (builder_len (f (get_or xs i e)) == n) slots.null (f (get_or xs i e)) (f y)
      → (k : ℕ) (d : A) → k < i + 1 → AddedIf (builder_len (f (get_or xs k d)) == n) slots.null (f (get_or xs k d)) (f (get_or (set ys i y) k d))
  next-done n [] ys i y e l h before q k d b = absurd (omega (arith, h))
  next-done n (x ∷ xs) [] i y e l h before q k d b = absurd (omega (arith, l))
  next-done n (x ∷ xs) (z ∷ ys) zero y e l h before q zero d b = q
  next-done n (x ∷ xs) (z ∷ ys) zero y e l h before q (suc k) d b = absurd (omega (arith, b))
  next-done n (x ∷ xs) (z ∷ ys) (suc i) y e l h before q zero d b = before zero d (omega arith)
  next-done n (x ∷ xs) (z ∷ ys) (suc i) y e l h before q (suc k) d b =
      next-done n xs ys i y e (omega (arith, l)) (omega (arith, h)) (λ j c w. before (suc j) c (omega (arith, w))) q k d (omega (arith, b))

  pub still-done : (n : ℕ) (xs ys : List A) (i : ℕ) (e : A) → length ys ≡ length xs → i < length xs
      → ((k : ℕ) (d : A) → k < i → AddedIf (builder_len (f (get_or xs k d)) == n) slots.null (f (get_or xs k d)) (f (get_or ys k d)))
      → AddedIf (builder_len (f (get_or xs i e)) == n) slots.null (f (get_or xs i e)) (f (get_or ys i e))
      → (k : ℕ) (d : A) → k < i + 1 → AddedIf (builder_len (f (get_or xs k d)) == n) slots.null (f (get_or xs k d)) (f (get_or ys k d))
  still-done n [] ys i e l h before q k d b = absurd (omega (arith, h))
  still-done n (x ∷ xs) [] i e l h before q k d b = absurd (omega (arith, l))
  still-done n (x ∷ xs) (z ∷ ys) zero e l h before q zero d b = q
  still-done n (x ∷ xs) (z ∷ ys) zero e l h before q (suc k) d b = absurd (omega (arith, b))
  still-done n (x ∷ xs) (z ∷ ys) (suc i) e l h before q zero d b = before zero d (omega arith)
  still-done n (x ∷ xs) (z ∷ ys) (suc i) e l h before q (suc k) d b =
      still-done n xs ys i e (omega (arith, l)) (omega (arith, h)) (λ j c w. before (suc j) c (omega (arith, w))) q k d (omega (arith, b))

  pub whole-at : (xs : List A) (i : ℕ) (d : A) → i < length xs → AreEachComplete (each f xs) → IsComplete (f (get_or xs i d))
  whole-at [] i d h w = absurd (omega (arith, h))
  whole-at (x ∷ xs) zero d h w = w.0
  whole-at (x ∷ xs) (suc i) d h w = whole-at xs i d (omega (arith, h)) w.1

eqb-other : (m n : ℕ) → (m ≡ n → ⊥) → (m == n) ≡ false
eqb-other m n h = elim (eqb_tells m n) [
  | inl p ↦ absurd (h p.1)
  | inr q ↦ q.0
]

module _ {A : Type 0} (f : A → BuilderTree) where
  pub other-here : (n len : ℕ) (x y : A) → len ≡ builder_len (f x) → (len ≡ n → ⊥) → y ≡ x → AddedIf (builder_len (f x) == n) slots.null (f x) (f y)
  other-here n len x y e h s = rw (eqb-other (builder_len (f x)) n (λ q. h (e ∙ q))) (ap f s)

  pub same-here : (n len : ℕ) (x y : A) → len ≡ builder_len (f x) → len ≡ n → SlotAdded slots.null (f x) (f y) → AddedIf (builder_len (f x) == n) slots.null (f x) (f y)
  same-here n len x y e h t = rw (eqb-same (builder_len (f x)) n (sym e ∙ h)) t

pub left-more : {A : Type 0} (xs ys : List A) (i : ℕ) (y : A) → ((k : ℕ) (d : A) → i ≤ k → get_or ys k d ≡ get_or xs k d) → (k : ℕ) (d : A) → i + 1 ≤ k → get_or (set ys i y) k d ≡ get_or xs k d
left-more xs ys i y h k d l = get_or-set_later ys i k y d l ∙ h k d (omega (arith, l))
  where
    get_or-set_later : {A : Type 0} (ys : List A) (i k : ℕ) (y d : A) → i + 1 ≤ k → get_or (set ys i y) k d ≡ get_or ys k d
    get_or-set_later [] i k y d l = refl
    get_or-set_later (z ∷ ys) zero zero y d l = absurd (omega (arith, l))
    get_or-set_later (z ∷ ys) zero (suc k) y d l = refl
    get_or-set_later (z ∷ ys) (suc i) zero y d l = absurd (omega (arith, l))
    get_or-set_later (z ∷ ys) (suc i) (suc k) y d l = get_or-set_later ys i k y d (omega (arith, l))
