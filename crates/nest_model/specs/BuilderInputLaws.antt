-- Lists that grow at their end, paired with another list.
use Rattle.std.proofs.Common.{◌≡◌, List, [], ◌∷◌, ◌++◌, Bool, true, false, length, refl, ap, ◌∙◌, arith}
use Rattle.std.specs.List.{AllZip, items_where_true}
use Rattle.std.specs.Iterator.{Yields}
use Rattle.std.specs.Vec.Iter.{into_iter_items, into_iter_steps}
use Rattle.std.specs.declared.vec.IntoIter.{IntoIter}

pub AllZip-push : {A B : Type 0} (R : A → B → Type 0) (xs : List A) (ys : List B) (x : A) (y : B) → AllZip R xs ys → R x y → AllZip R (xs ++ x ∷ []) (ys ++ y ∷ [])
AllZip-push R [] [] x y h r = (r, tt)
AllZip-push R [] (z ∷ ys) x y h r = absurd h
AllZip-push R (w ∷ xs) [] x y h r = absurd h
AllZip-push R (w ∷ xs) (z ∷ ys) x y h r = (h.0, AllZip-push R xs ys x y h.1 r)

-- the items that a vector's iterator has yielded are a prefix of its items
pub given-front : {X A : Type 0} (s : IntoIter X A) (xs : List X) (t : IntoIter X A) → Yields into_iter_steps s xs t → into_iter_items s ≡ xs ++ into_iter_items t
given-front s [] t y = ap into_iter_items y
given-front s (x ∷ xs) t y = y.1.0 ∙ ap (λ ys. x ∷ ys) (given-front y.0 xs t y.2)

pub where_true-push : {A : Type 0} (bs : List Bool) (xs : List A) (x : A) → length bs ≡ length xs → items_where_true (bs ++ true ∷ []) (xs ++ x ∷ []) ≡ items_where_true bs xs ++ x ∷ []
where_true-push [] [] x e = refl
where_true-push [] (y ∷ xs) x e = absurd (omega (arith, e))
where_true-push (b ∷ bs) [] x e = absurd (omega (arith, e))
where_true-push (true ∷ bs) (y ∷ xs) x e = ap (λ zs. y ∷ zs) (where_true-push bs xs x (omega (arith, e)))
where_true-push (false ∷ bs) (y ∷ xs) x e = where_true-push bs xs x (omega (arith, e))

pub where_false-push : {A : Type 0} (bs : List Bool) (xs : List A) (x : A) → length bs ≡ length xs → items_where_true (bs ++ false ∷ []) (xs ++ x ∷ []) ≡ items_where_true bs xs
where_false-push [] [] x e = refl
where_false-push [] (y ∷ xs) x e = absurd (omega (arith, e))
where_false-push (b ∷ bs) [] x e = absurd (omega (arith, e))
where_false-push (true ∷ bs) (y ∷ xs) x e = ap (λ zs. y ∷ zs) (where_false-push bs xs x (omega (arith, e)))
where_false-push (false ∷ bs) (y ∷ xs) x e = where_false-push bs xs x (omega (arith, e))
