-- Laws of rows after a push, join or truncation: where they end, rising offsets, and the values that keys need.
use Rattle.std.specs.Prelude.{Option, Some, None}
use Rattle.std.proofs.Common.{◌≡◌, ℕ, zero, suc, ◌+◌, ◌≤◌, ◌<◌, false, List, [], ◌∷◌, ◌++◌, length, get_or, take, max, replicate, refl, ap, arith}
use Rattle.std.proofs.lemmas.List.{take_more}
use Rattle.nest_model.specs.BuilderRow.{Row, row_ending, end_from, RisesFrom, values_needed}

pub end_from-push : (s : ℕ) (rs : List Row) (r : Row) → end_from s (rs ++ r ∷ []) ≡ r.end
end_from-push s [] r = refl
end_from-push s (q ∷ rs) r = end_from-push q.end rs r

pub RisesFrom-push : (s : ℕ) (rs : List Row) (r : Row) → RisesFrom s rs → end_from s rs ≤ r.end → RisesFrom s (rs ++ r ∷ [])
RisesFrom-push s [] r h e = (e, tt)
RisesFrom-push s (q ∷ rs) r h e = (h.0, RisesFrom-push q.end rs r h.1 e)

pub end_from-append : (s : ℕ) (xs ys : List Row) → end_from s (xs ++ ys) ≡ end_from (end_from s xs) ys
end_from-append s [] ys = refl
end_from-append s (x ∷ xs) ys = end_from-append x.end xs ys

pub RisesFrom-append : (s : ℕ) (xs ys : List Row) → RisesFrom s xs → RisesFrom (end_from s xs) ys → RisesFrom s (xs ++ ys)
RisesFrom-append s [] ys h k = k
RisesFrom-append s (x ∷ xs) ys h k = (h.0, RisesFrom-append x.end xs ys h.1 k)

pub end_from-le : (s : ℕ) (rs : List Row) → RisesFrom s rs → s ≤ end_from s rs
end_from-le s [] h = omega arith
end_from-le s (q ∷ rs) h = omega (arith, h.0, end_from-le q.end rs h.1)

-- the end of the last row is the last offset
pub end_from-last : (s : ℕ) (rs : List Row) (r : Row) (k : ℕ) → length rs ≡ k + 1 → r ≡ get_or rs k r → r.end ≡ end_from s rs
end_from-last s [] r k e h = absurd (omega arith)
end_from-last s (q ∷ []) r zero e h = ap (λ (x : Row). x.end) h
end_from-last s (q ∷ []) r (suc k) e h = absurd (omega arith)
end_from-last s (q ∷ p ∷ rs) r zero e h = absurd (omega arith)
end_from-last s (q ∷ p ∷ rs) r (suc k) e h = end_from-last q.end (p ∷ rs) r k (omega arith) h

-- the offsets of the first rows
pub end_from-front : (s : ℕ) (rs : List Row) (n : ℕ) → RisesFrom s rs → end_from s (take n rs) ≤ end_from s rs
end_from-front s [] zero h = omega arith
end_from-front s [] (suc n) h = omega arith
end_from-front s (q ∷ rs) zero h = omega (arith, h.0, end_from-le q.end rs h.1)
end_from-front s (q ∷ rs) (suc n) h = end_from-front q.end rs n h.1

pub end_from-take-le : (s : ℕ) (rs : List Row) (m n : ℕ) → RisesFrom s rs → m ≤ n → end_from s (take m rs) ≤ end_from s (take n rs)
end_from-take-le s [] zero zero h e = omega arith
end_from-take-le s [] zero (suc n) h e = omega arith
end_from-take-le s [] (suc m) zero h e = omega arith
end_from-take-le s [] (suc m) (suc n) h e = omega arith
end_from-take-le s (q ∷ rs) zero zero h e = omega arith
end_from-take-le s (q ∷ rs) zero (suc n) h e = omega (arith, h.0, end_from-take-le q.end rs zero n h.1 (omega arith))
end_from-take-le s (q ∷ rs) (suc m) zero h e = absurd (omega arith)
end_from-take-le s (q ∷ rs) (suc m) (suc n) h e = end_from-take-le q.end rs m n h.1 (omega arith)

pub RisesFrom-take : (s : ℕ) (rs : List Row) (n : ℕ) → RisesFrom s rs → RisesFrom s (take n rs)
RisesFrom-take s [] zero h = tt
RisesFrom-take s [] (suc n) h = tt
RisesFrom-take s (q ∷ rs) zero h = tt
RisesFrom-take s (q ∷ rs) (suc n) h = (h.0, RisesFrom-take q.end rs n h.1)

-- null rows have no items
pub end_from-same : (e n : ℕ) → end_from e (replicate n (row_ending false e)) ≡ e
end_from-same e zero = refl
end_from-same e (suc n) = end_from-same e n

pub RisesFrom-same : (e n : ℕ) → RisesFrom e (replicate n (row_ending false e))
RisesFrom-same e zero = tt
RisesFrom-same e (suc n) = (omega arith, RisesFrom-same e n)

-- keys
pub values_needed-nulls : (ks : List (Option ℕ)) (n : ℕ) → values_needed (ks ++ replicate n None) ≡ values_needed ks
values_needed-nulls [] zero = refl
values_needed-nulls [] (suc n) = values_needed-nulls [] n
values_needed-nulls (None ∷ ks) n = values_needed-nulls ks n
values_needed-nulls (Some k ∷ ks) n = ap (λ m. max (suc k) m) (values_needed-nulls ks n)

pub values_needed-push : (ks : List (Option ℕ)) (k : ℕ) → values_needed (ks ++ Some k ∷ []) ≡ max (suc k) (values_needed ks)
values_needed-push [] k = refl
values_needed-push (None ∷ ks) k = values_needed-push ks k
values_needed-push (Some j ∷ ks) k = rw (values_needed-push ks k) (omega arith)

pub values_needed-front : (ks : List (Option ℕ)) (n : ℕ) → values_needed (take n ks) ≤ values_needed ks
values_needed-front [] zero = omega arith
values_needed-front [] (suc n) = omega arith
values_needed-front (k ∷ ks) zero = omega arith
values_needed-front (None ∷ ks) (suc n) = values_needed-front ks n
values_needed-front (Some k ∷ ks) (suc n) = omega (arith, values_needed-front ks n)

pub values_needed-take-le : (ks : List (Option ℕ)) (m n : ℕ) → m ≤ n → values_needed (take m ks) ≤ values_needed (take n ks)
values_needed-take-le ks zero n e = omega arith
values_needed-take-le [] (suc m) n e = omega arith
values_needed-take-le (k ∷ ks) (suc m) zero e = absurd (omega arith)
values_needed-take-le (None ∷ ks) (suc m) (suc n) e = values_needed-take-le ks m n (omega arith)
values_needed-take-le (Some k ∷ ks) (suc m) (suc n) e = omega (arith, values_needed-take-le ks m n (omega arith))

-- a key is less than the number of values needed
pub values_needed-above : (ks : List (Option ℕ)) (i k : ℕ) (d : Option ℕ) → i < length ks → get_or ks i d ≡ Some k → k < values_needed ks
values_needed-above [] i k d l e = absurd (omega arith)
values_needed-above (None ∷ ks) zero k d l e = absurd cc
values_needed-above (None ∷ ks) (suc i) k d l e = values_needed-above ks i k d (omega arith) e
values_needed-above (Some j ∷ ks) zero k d l e = let q : j ≡ k = cc in omega arith
values_needed-above (Some j ∷ ks) (suc i) k d l e = omega (arith, values_needed-above ks i k d (omega arith) e)

-- one more key
pub values_needed-next : (ks : List (Option ℕ)) (i k : ℕ) → i < length ks → get_or ks i None ≡ Some k → values_needed (take (i + 1) ks) ≡ max (suc k) (values_needed (take i ks))
values_needed-next ks i k l e = rw (take_more ks i None l, e) (values_needed-push (take i ks) k)

pub values_needed-next_none : (ks : List (Option ℕ)) (i : ℕ) → i < length ks → get_or ks i None ≡ None → values_needed (take (i + 1) ks) ≡ values_needed (take i ks)
values_needed-next_none ks i l e = rw (take_more ks i None l, e) (values_needed-nulls (take i ks) 1)
