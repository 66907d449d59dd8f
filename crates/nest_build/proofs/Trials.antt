-- Pushing the items of a vector one by one.
use Rattle.std.proofs.Common.{◌≡◌, ◌<◌, List, [], ◌∷◌, ◌++◌, length, length-append, ap, ◌∙◌, arith}
use Rattle.std.specs.Iterator.{Yields}
use Rattle.std.specs.Vec.Iter.{into_iter_items, into_iter_steps}
use Rattle.std.specs.declared.vec.IntoIter.{IntoIter}

-- the items that the iterator of a vector has returned are a prefix of its items
pub taken_front : {X A : Type 0} (s : IntoIter X A) (xs : List X) (t : IntoIter X A) → Yields into_iter_steps s xs t → into_iter_items s ≡ xs ++ into_iter_items t
taken_front s [] t y = ap into_iter_items y
taken_front s (x ∷ xs) t y = y.1.0 ∙ ap (λ ys. x ∷ ys) (taken_front y.0 xs t y.2)

pub room-left : {A : Type 0} (all ys rest : List A) (x : A) → all ≡ (ys ++ x ∷ []) ++ rest → length ys < length all
room-left all ys rest x e = omega (arith, ap length e, length-append (ys ++ x ∷ []) rest, length-append ys (x ∷ []))

pub length-last : {A B : Type 0} (new bs : List A) (xs : List B) (b : A) (x : B) → new ≡ bs ++ b ∷ [] → length bs ≡ length xs → length new ≡ length (xs ++ x ∷ [])
length-last new bs xs b x e h = omega (arith, ap length e, h, length-append bs (b ∷ []), length-append xs (x ∷ []))
