-- Columns compared one by one.
use Rattle.std.proofs.Common.{◌≡◌, true, List, [], ◌∷◌, Bool, map, refl}
use Rattle.std.specs.Bool.{Decides}
use Rattle.std.specs.Cmp.{first_so, second_so}
use Rattle.std.specs.Cmp.Lexicographic.{pointwise}
use Rattle.std.specs.Prelude.{◌&&◌}
use Rattle.nest_model.specs.Layout.{Layout}
use Rattle.nest_model.specs.SameArray.{same_array}
use Rattle.nest_model.specs.SameArrayLaws.{same_array-decides}
use Rattle.guide.specs.Orders.{AreSame}

module _ {A : Type 0} (f : A → Layout) where
  abbrev same : A → A → Bool
  same x y = same_array (f x) (f y)

  found : (xs ys : List A) → pointwise same xs ys ≡ true → AreSame (map f xs) (map f ys)
  found [] [] h = tt
  found [] (y ∷ ys) h = cc
  found (x ∷ xs) [] h = cc
  found (x ∷ xs) (y ∷ ys) h = ((same_array-decides (f x) (f y)).0 (first_so (same x y) (pointwise same xs ys) h), found xs ys (second_so (same x y) (pointwise same xs ys) h))

  back : (xs ys : List A) → AreSame (map f xs) (map f ys) → pointwise same xs ys ≡ true
  back [] [] h = refl
  back [] (y ∷ ys) h = absurd h
  back (x ∷ xs) [] h = absurd h
  back (x ∷ xs) (y ∷ ys) h =
      let a = (same_array-decides (f x) (f y)).1 h.0 in
      let b = back xs ys h.1 in
      λ i. a i && b i

  pub columns_decide : (xs ys : List A) → Decides (pointwise same xs ys) (AreSame (map f xs) (map f ys))
  columns_decide xs ys = (found xs ys, back xs ys)
