-- Reserved rows and nulls that exceed a limit in one of several builders or in none.
use Rattle.std.specs.Prelude.{List as Seq, [], ◌∷◌, Bool, true, false, ◌||◌, ◌⊎◌, alloc_error}
use Rattle.std.specs.List.{list_any}
use Rattle.std.proofs.Common.{◌≡◌, ℕ, suc, ◌<◌, length, get_or, refl, sym, ap, ◌∙◌, inl, inr, arith}
use Rattle.std.proofs.lemmas.List.Folds.{list_any_at}
use Rattle.nest_memory.specs.declared.error.Error.{Error}
use Rattle.nest_memory.specs.declared.error.Error.TheVariants.{Memory, Overflow}
use Rattle.nest_model.specs.BuilderTree.{BuilderTree}
use Rattle.nest_build.specs.Shown.{reserve_passes, reserve_passes_each}
use Rattle.nest_any.specs.Each.{each}

any-none : {A : Type 0} (p : A → Bool) (xs : Seq A) → ((k : ℕ) (d : A) → k < length xs → p (get_or xs k d) ≡ false) → list_any p xs ≡ false
any-none p [] h = refl
any-none p (x ∷ xs) h =
    let a : p x ≡ false = h 0 x (omega arith) in
    rw (a, any-none p xs (λ k d l. h (suc k) d (omega arith))) refl

reserve-any : {A : Type 0} (f : A → BuilderTree) (n : ℕ) (xs : Seq A) → reserve_passes_each n (each f xs) ≡ list_any (λ x. reserve_passes n (f x)) xs
reserve-any f n [] = refl
reserve-any f n (x ∷ xs) = ap (λ b. reserve_passes n (f x) || b) (reserve-any f n xs)

pub reserve-at : {A : Type 0} (f : A → BuilderTree) (xs : Seq A) (n i : ℕ) (d : A) → reserve_passes n (f (get_or xs i d)) ≡ true → i < length xs → reserve_passes_each n (each f xs) ≡ true
reserve-at f xs n i d h l = reserve-any f n xs ∙ list_any_at (λ x. reserve_passes n (f x)) xs i d l h

pub reserve-none : {A : Type 0} (f : A → BuilderTree) (xs : Seq A) (n : ℕ) → ((k : ℕ) (d : A) → k < length xs → reserve_passes n (f (get_or xs k d)) ≡ false) → reserve_passes_each n (each f xs) ≡ false
reserve-none f xs n h = reserve-any f n xs ∙ any-none (λ x. reserve_passes n (f x)) xs h

-- the limit of one child is exceeded
pub child-lacks_room : {A : Type 0} (f : A → BuilderTree) (xs : Seq A) (n i : ℕ) (d : A) (t : BuilderTree) (e : Error) → i < length xs → t ≡ f (get_or xs i d) → (e ≡ Memory alloc_error) ⊎ ((e ≡ Overflow) × (reserve_passes n t ≡ true))
    → (e ≡ Memory alloc_error) ⊎ ((e ≡ Overflow) × (reserve_passes_each n (each f xs) ≡ true))
child-lacks_room f xs n i d t e l s (inl m) = inl m
child-lacks_room f xs n i d t e l s (inr p) = inr (p.0, reserve-at f xs n i d (ap (reserve_passes n) (sym s) ∙ p.1) l)
