-- Children of arrays in vectors, and windows over them.
use Rattle.std.specs.Prelude.{List as Seq, [], ◌∷◌, ◌++◌, ◌⊎◌, map}
use Rattle.std.proofs.Common.{◌≡◌, ℕ, zero, suc, ◌+◌, ◌<◌, length, get_or, inl, inr, refl, ap, sym, subst, arith}
use Rattle.std.proofs.lemmas.List.Elements.{All-nil, All-append, All-cons}
use Rattle.nest_array.specs.WindowParts.{WindowParts}
use Rattle.nest_array.specs.declared.any.AnyArray.{AnyArray}
use Rattle.nest_array.specs.Seen.{layout_of, layouts_of}
use Rattle.nest_model.specs.Accessors.{child_at}
use Rattle.nest_model.specs.Array.{TopFits}
use Rattle.nest_model.specs.Layout.{Layout, Layouts, no_layouts, more_layouts, count_layouts, layout_type, weight, weight_all}
use Rattle.nest_concat.specs.Joined.{AreArrays, EachJoined, IsJoined}
use Rattle.nest_concat.specs.Windows.{field_window}

pub weight-at : (cs : Layouts) (f : ℕ) → f < count_layouts cs → weight (child_at cs f) < weight_all cs
weight-at no_layouts f h = absurd (omega arith)
weight-at (more_layouts c cs) zero h = omega arith
weight-at (more_layouts c cs) (suc f) h = omega (arith, weight-at cs f (omega arith))

pub layout-at : (xs : Seq AnyArray) (i : ℕ) (d : AnyArray) → i < length xs → layout_of (get_or xs i d) ≡ child_at (layouts_of xs) i
layout-at [] i d h = absurd (omega arith)
layout-at (x ∷ xs) zero d h = refl
layout-at (x ∷ xs) (suc i) d h = layout-at xs i d (omega arith)

pub count-of : (xs : Seq AnyArray) → count_layouts (layouts_of xs) ≡ length xs
count-of [] = refl
count-of (x ∷ xs) = ap suc (count-of xs)

-- children from field k on, each concatenated
pub all-joined : (cs : Layouts) (k : ℕ) (ws : Seq WindowParts) (ys : Seq AnyArray) → length ys ≡ count_layouts cs
    → ((f : ℕ) (d : AnyArray) → f < count_layouts cs → IsJoined (layout_type (child_at cs f)) (map (field_window (k + f)) ws) (layout_of (get_or ys f d))) → EachJoined cs k ws (layouts_of ys)
all-joined no_layouts k ws [] e h = tt
all-joined no_layouts k ws (y ∷ ys) e h = absurd (omega arith)
all-joined (more_layouts c cs) k ws [] e h = absurd (omega arith)
all-joined (more_layouts c cs) k ws (y ∷ ys) e h =
    let z : k + 0 ≡ k = omega arith in (
      subst (λ n. IsJoined (layout_type c) (map (field_window n) ws) (layout_of y)) z (h 0 y (omega arith)),
      all-joined cs (suc k) ws ys (omega arith)
          (λ f d l.
          let w : k + suc f ≡ suc k + f = omega arith in
          subst (λ n. IsJoined (layout_type (child_at cs f)) (map (field_window n) ws) (layout_of (get_or ys f d))) w (h (suc f) d (omega arith))),
    )

pub each-joined : (cs : Layouts) (ws : Seq WindowParts) (ys : Seq AnyArray) → length ys ≡ count_layouts cs
    → ((f : ℕ) (d : AnyArray) → f < count_layouts cs → IsJoined (layout_type (child_at cs f)) (map (field_window f) ws) (layout_of (get_or ys f d))) → EachJoined cs 0 ws (layouts_of ys)
each-joined cs ws ys e h = all-joined cs 0 ws ys e (λ f d l. let z : f ≡ 0 + f = omega arith in subst (λ n. IsJoined (layout_type (child_at cs f)) (map (field_window n) ws) (layout_of (get_or ys f d))) z (h f d l))

-- one more concatenated child
before-last : (ys : Seq AnyArray) (y d : AnyArray) (k : ℕ) → k < length ys → get_or (ys ++ y ∷ []) k d ≡ get_or ys k d
before-last [] y d k h = absurd (omega arith)
before-last (z ∷ zs) y d zero h = refl
before-last (z ∷ zs) y d (suc k) h = before-last zs y d k (omega arith)

at-last : (ys : Seq AnyArray) (y d : AnyArray) (k : ℕ) → k ≡ length ys → get_or (ys ++ y ∷ []) k d ≡ y
at-last [] y d zero h = refl
at-last [] y d (suc k) h = absurd (omega arith)
at-last (z ∷ zs) y d zero h = absurd (omega arith)
at-last (z ∷ zs) y d (suc k) h = at-last zs y d k (omega arith)

last-or-before : (k n : ℕ) → k < n + 1 → (k < n) ⊎ (k ≡ n)
last-or-before zero zero h = inr refl
last-or-before zero (suc n) h = inl (omega arith)
last-or-before (suc k) zero h = absurd (omega arith)
last-or-before (suc k) (suc n) h = up (last-or-before k n (omega arith))
  where
    up : (k < n) ⊎ (k ≡ n) → (suc k < suc n) ⊎ (suc k ≡ suc n)
    up (inl l) = inl (omega arith)
    up (inr e) = inr (ap suc e)

pub one-more : (P : ℕ → Layout → Type 0) (ys : Seq AnyArray) (n : ℕ) (y : AnyArray) → length ys ≡ n → ((k : ℕ) (d : AnyArray) → k < n → P k (layout_of (get_or ys k d)))
    → P n (layout_of y) → (k : ℕ) (d : AnyArray) → k < n + 1 → P k (layout_of (get_or (ys ++ y ∷ []) k d))
one-more P ys n y l f t k d m = go (last-or-before k n m)
  where
    go : (k < n) ⊎ (k ≡ n) → P k (layout_of (get_or (ys ++ y ∷ []) k d))
    go (inl b) = subst (λ z. P k (layout_of z)) (sym (before-last ys y d k (omega arith))) (f k d b)
    go (inr e) = subst (λ z. P k (layout_of z)) (sym (at-last ys y d k (omega arith))) (subst (λ j. P j (layout_of y)) (sym e) t)

pub each-more : (P : ℕ → Type 0) (n : ℕ) → ((k : ℕ) → k < n → P k) → P n → (k : ℕ) → k < n + 1 → P k
each-more P n f t k m = go (last-or-before k n m)
  where
    go : (k < n) ⊎ (k ≡ n) → P k
    go (inl b) = f k b
    go (inr e) = subst P (sym e) t

-- one more window over an array
pub fit-more : (ws : Seq WindowParts) (w : WindowParts) → AreArrays ws → TopFits w.array → AreArrays (ws ++ w ∷ [])
fit-more ws w h f = All-append (λ x. TopFits x.array) ws (w ∷ []) h (All-cons (λ x. TopFits x.array) w [] f (All-nil (λ x. TopFits x.array)))
