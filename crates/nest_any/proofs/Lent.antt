-- A borrowed child in the list of the children.
use Rattle.std.specs.Prelude.{List as Seq, [], ◌∷◌, Some, None}
use Rattle.std.proofs.Common.{◌≡◌, ℕ, zero, suc, ◌<◌, ◌≤◌, ◌++◌, length, get_or, set, take, drop, refl, ap, ◌∙◌, arith}
use Rattle.nest_model.specs.BuilderTree.{BuilderTree, more_builders}
use Rattle.nest_any.specs.Each.{each}
use Rattle.nest_any.specs.Lent.{builder_at, set_builder, written_over}

pub each-at : {A : Type 0} (f : A → BuilderTree) (xs : Seq A) (i : ℕ) (d : A) → i < length xs → Some (f (get_or xs i d)) ≡ builder_at (each f xs) i
each-at f [] i d l = absurd (omega (arith, l))
each-at f (x ∷ xs) zero d l = refl
each-at f (x ∷ xs) (suc i) d l = each-at f xs i d (omega (arith, l))

pub each-past : {A : Type 0} (f : A → BuilderTree) (xs : Seq A) (i : ℕ) → length xs ≤ i → builder_at (each f xs) i ≡ None
each-past f [] i l = refl
each-past f (x ∷ xs) zero l = absurd (omega (arith, l))
each-past f (x ∷ xs) (suc i) l = each-past f xs i (omega (arith, l))

pub each-set : {A : Type 0} (f : A → BuilderTree) (xs : Seq A) (i : ℕ) (y : A) → each f (set xs i y) ≡ set_builder (each f xs) i (f y)
each-set f [] i y = refl
each-set f (x ∷ xs) zero y = refl
each-set f (x ∷ xs) (suc i) y = ap (more_builders (f x)) (each-set f xs i y)

take-complete : {A : Type 0} (xs : Seq A) → take (length xs) xs ≡ xs
take-complete [] = refl
take-complete (x ∷ xs) = ap (λ ys. x ∷ ys) (take-complete xs)

all-over : {A : Type 0} (f : A → BuilderTree) (xs ws : Seq A) → each f (take (length xs) (ws ++ drop (length ws) xs)) ≡ written_over (each f xs) (each f ws)
all-over f [] ws = refl
all-over f (x ∷ xs) [] = ap (λ ys. more_builders (f x) (each f ys)) (take-complete xs)
all-over f (x ∷ xs) (w ∷ ws) = ap (more_builders (f w)) (all-over f xs ws)

pub each-over : {A : Type 0} (f : A → BuilderTree) (xs ws : Seq A) (n : ℕ) → n ≡ length xs → each f (take n (ws ++ drop (length ws) xs)) ≡ written_over (each f xs) (each f ws)
each-over f xs ws n e = ap (λ m. each f (take m (ws ++ drop (length ws) xs))) e ∙ all-over f xs ws
