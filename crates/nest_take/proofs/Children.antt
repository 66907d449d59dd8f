-- Children in a vector: the depth of each, and the facts about each taken child.
use Rattle.std.specs.Prelude.{◌⊎◌, List as Seq, [], ◌∷◌, ◌++◌, alloc_error}
use Rattle.std.proofs.Common.{◌≡◌, ℕ, zero, suc, ◌+◌, ◌<◌, List, length, get_or, inl, inr, refl, ap, sym, ◌∙◌, subst, arith}
use Rattle.nest_memory.specs.declared.error.Error.{Error}
use Rattle.nest_memory.specs.declared.error.Error.TheVariants.{Memory, Overflow}
use Rattle.nest_array.specs.declared.any.AnyArray.{AnyArray}
use Rattle.nest_array.specs.Seen.{layout_of, layouts_of}
use Rattle.nest_model.specs.Accessors.{child_at}
use Rattle.nest_model.specs.Layout.{Layouts, count_layouts, weight, weight_all}
use Rattle.nest_model.specs.Meaning.{len}
use Rattle.nest_take.specs.Limits.{PassesLimits, PicksPass, SomePasses}
use Rattle.nest_take.specs.Indices.{AreBelow}
use Rattle.nest_take.specs.Taken.{IsTaken, EachPicked, EachReaches, EachTaken, RefusesTake}

pub weight-at : (xs : Seq AnyArray) (i : ℕ) (d : AnyArray) → i < length xs → weight (layout_of (get_or xs i d)) < weight_all (layouts_of xs)
weight-at [] i d h = absurd (omega arith)
weight-at (x ∷ xs) zero d h = omega arith
weight-at (x ∷ xs) (suc i) d h = omega (arith, weight-at xs i d (omega arith))

pub reaches-at : (xs : Seq AnyArray) (is : List ℕ) (i : ℕ) (d : AnyArray) → EachReaches (layouts_of xs) is → i < length xs → AreBelow is (len (layout_of (get_or xs i d)))
reaches-at [] is i d h k = absurd (omega arith)
reaches-at (x ∷ xs) is zero d h k = h.0
reaches-at (x ∷ xs) is (suc i) d h k = reaches-at xs is i d h.1 (omega arith)

pub passes-at : (xs : Seq AnyArray) (is : List ℕ) (i : ℕ) (d : AnyArray) → PassesLimits (layout_of (get_or xs i d)) is → i < length xs → SomePasses (layouts_of xs) is
passes-at [] is i d h k = absurd (omega arith)
passes-at (x ∷ xs) is zero d h k = inl h
passes-at (x ∷ xs) is (suc i) d h k = inr (passes-at xs is i d h (omega arith))

pub all-taken : (xs ys : Seq AnyArray) (is : List ℕ) → length ys ≡ length xs → ((k : ℕ) (d : AnyArray) → k < length xs → IsTaken (layout_of (get_or xs k d)) is (layout_of (get_or ys k d)))
    → EachTaken (layouts_of xs) is (layouts_of ys)
all-taken [] [] is e h = tt
all-taken [] (y ∷ ys) is e h = absurd (omega arith)
all-taken (x ∷ xs) [] is e h = absurd (omega arith)
all-taken (x ∷ xs) (y ∷ ys) is e h = (h 0 x (omega arith), all-taken xs ys is (omega arith) (λ k d l. h (suc k) d (omega arith)))

-- a child by its index
pub layout-at : (xs : Seq AnyArray) (i : ℕ) (d : AnyArray) → i < length xs → layout_of (get_or xs i d) ≡ child_at (layouts_of xs) i
layout-at [] i d h = absurd (omega arith)
layout-at (x ∷ xs) zero d h = refl
layout-at (x ∷ xs) (suc i) d h = layout-at xs i d (omega arith)

pub count-of : (xs : Seq AnyArray) → count_layouts (layouts_of xs) ≡ length xs
count-of [] = refl
count-of (x ∷ xs) = ap suc (count-of xs)

-- children from field k on, each taken where it is picked
pub all-picked : (P : ℕ → List ℕ) (xs ys : Seq AnyArray) (k : ℕ) → length ys ≡ length xs
    → ((f : ℕ) (d : AnyArray) → f < length xs → IsTaken (layout_of (get_or xs f d)) (P (k + f)) (layout_of (get_or ys f d))) → EachPicked P k (layouts_of xs) (layouts_of ys)
all-picked P [] [] k e h = tt
all-picked P [] (y ∷ ys) k e h = absurd (omega arith)
all-picked P (x ∷ xs) [] k e h = absurd (omega arith)
all-picked P (x ∷ xs) (y ∷ ys) k e h =
    let z : k + 0 ≡ k = omega arith in (
      subst (λ p. IsTaken (layout_of x) (P p) (layout_of y)) z (h 0 x (omega arith)),
      all-picked P xs ys (suc k) (omega arith)
          (λ f d l.
          let w : k + suc f ≡ suc k + f = omega arith in
          subst (λ p. IsTaken (layout_of (get_or xs f d)) (P p) (layout_of (get_or ys f d))) w (h (suc f) d (omega arith))),
    )

pub picks-pass-at : (P : ℕ → List ℕ) (xs : Seq AnyArray) (k f : ℕ) (d : AnyArray) → PassesLimits (layout_of (get_or xs f d)) (P (k + f)) → f < length xs → PicksPass P k (layouts_of xs)
picks-pass-at P [] k f d h l = absurd (omega arith)
picks-pass-at P (x ∷ xs) k zero d h l = let z : k + 0 ≡ k = omega arith in inr (inl (subst (λ p. PassesLimits (layout_of x) (P p)) z h))
picks-pass-at P (x ∷ xs) k (suc f) d h l =
    let w : k + suc f ≡ suc k + f = omega arith in
    inr (inr (picks-pass-at P xs (suc k) f d (subst (λ p. PassesLimits (layout_of (get_or xs f d)) (P p)) w h) (omega arith)))

-- the error of one child
pub refuses-at : (xs : Seq AnyArray) (is : List ℕ) (i : ℕ) (x : AnyArray) (e : Error) → x ≡ get_or xs i x → i < length xs → RefusesTake e (layout_of x) is
    → (e ≡ Memory alloc_error) ⊎ ((e ≡ Overflow) × SomePasses (layouts_of xs) is)
refuses-at xs is i x e s h (inl m) = inl m
refuses-at xs is i x e s h (inr p) = inr (p.0, passes-at xs is i x (subst (λ z. PassesLimits (layout_of z) is) s p.1) h)

-- one more taken child
before-last : (ys : Seq AnyArray) (y d : AnyArray) (k : ℕ) → k < length ys → get_or (ys ++ y ∷ []) k d ≡ get_or ys k d
before-last [] y d k h = absurd (omega arith)
before-last (z ∷ zs) y d zero h = refl
before-last (z ∷ zs) y d (suc k) h = before-last zs y d k (omega arith)

at-last : (ys : Seq AnyArray) (y d : AnyArray) (k : ℕ) → k ≡ length ys → get_or (ys ++ y ∷ []) k d ≡ y
at-last [] y d zero h = refl
at-last [] y d (suc k) h = absurd (omega arith)
at-last (z ∷ zs) y d zero h = absurd (omega arith)
at-last (z ∷ zs) y d (suc k) h = at-last zs y d k (omega arith)

any-default : (xs : Seq AnyArray) (k : ℕ) (d e : AnyArray) → k < length xs → get_or xs k d ≡ get_or xs k e
any-default [] k d e h = absurd (omega arith)
any-default (x ∷ xs) zero d e h = refl
any-default (x ∷ xs) (suc k) d e h = any-default xs k d e (omega arith)

last-or-before : (k n : ℕ) → k < n + 1 → (k < n) ⊎ (k ≡ n)
last-or-before zero zero h = inr refl
last-or-before zero (suc n) h = inl (omega arith)
last-or-before (suc k) zero h = absurd (omega arith)
last-or-before (suc k) (suc n) h = up (last-or-before k n (omega arith))
  where
    up : (k < n) ⊎ (k ≡ n) → (suc k < suc n) ⊎ (suc k ≡ suc n)
    up (inl l) = inl (omega arith)
    up (inr e) = inr (ap suc e)

pub one-more : (P : ℕ → List ℕ) (xs ys : Seq AnyArray) (n : ℕ) (x y : AnyArray) → length ys ≡ n → x ≡ get_or xs n x → n < length xs
    → ((k : ℕ) (d : AnyArray) → k < n → IsTaken (layout_of (get_or xs k d)) (P k) (layout_of (get_or ys k d)))
    → IsTaken (layout_of x) (P n) (layout_of y) → (k : ℕ) (d : AnyArray) → k < n + 1
    → IsTaken (layout_of (get_or xs k d)) (P k) (layout_of (get_or (ys ++ y ∷ []) k d))
one-more P xs ys n x y l s h f t k d m = go (last-or-before k n m)
  where
    go : (k < n) ⊎ (k ≡ n) → IsTaken (layout_of (get_or xs k d)) (P k) (layout_of (get_or (ys ++ y ∷ []) k d))
    go (inl b) = subst (λ z. IsTaken (layout_of (get_or xs k d)) (P k) (layout_of z)) (sym (before-last ys y d k (omega arith))) (f k d b)
    go (inr e) =
        let p : x ≡ get_or xs k d = s ∙ any-default xs n x d h ∙ ap (λ j. get_or xs j d) (sym e) in
        let q : y ≡ get_or (ys ++ y ∷ []) k d = sym (at-last ys y d k (omega arith)) in
        let r = subst (λ j. IsTaken (layout_of x) (P j) (layout_of y)) (sym e) t in
        subst (λ z. IsTaken (layout_of z) (P k) (layout_of (get_or (ys ++ y ∷ []) k d))) p (subst (λ z. IsTaken (layout_of x) (P k) (layout_of z)) q r)

-- all fields, and the error of one
pub fields-picked : (P : ℕ → List ℕ) (xs ys : Seq AnyArray) (cs : Layouts) → layouts_of xs ≡ cs → length ys ≡ length xs
    → ((f : ℕ) (d : AnyArray) → f < length xs → IsTaken (layout_of (get_or xs f d)) (P f) (layout_of (get_or ys f d))) → EachPicked P 0 cs (layouts_of ys)
fields-picked P xs ys cs e l h =
    subst (λ z. EachPicked P 0 z (layouts_of ys)) e
    (all-picked P xs ys 0 l
    (λ f d m.
    let z : f ≡ 0 + f = omega arith in
    subst (λ p. IsTaken (layout_of (get_or xs f d)) (P p) (layout_of (get_or ys f d))) z (h f d m)))

pub field-refuses : (P : ℕ → List ℕ) (xs : Seq AnyArray) (cs : Layouts) (f : ℕ) (x : AnyArray) (ps : List ℕ) (e : Error) → layouts_of xs ≡ cs → x ≡ get_or xs f x → f < length xs
    → ps ≡ P f → RefusesTake e (layout_of x) ps → (e ≡ Memory alloc_error) ⊎ ((e ≡ Overflow) × PicksPass P 0 cs)
field-refuses P xs cs f x ps e g s l q (inl m) = inl m
field-refuses P xs cs f x ps e g s l q (inr p) =
    let z : f ≡ 0 + f = omega arith in
    let a = subst (λ w. PassesLimits (layout_of w) ps) s p.1 in
    let b = subst (PassesLimits (layout_of (get_or xs f x))) (q ∙ ap P z) a in
    inr (p.0, subst (PicksPass P 0) g (picks-pass-at P xs 0 f x b l))
