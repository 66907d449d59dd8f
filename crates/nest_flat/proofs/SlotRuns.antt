-- Ranges of slots: their first, their last and their number.
use Rattle.std.proofs.Common.{◌≡◌, ℕ, zero, suc, ◌+◌, ◌-◌, ◌<◌, [], ◌∷◌, ◌++◌, length, ap, ◌∙◌, arith}
use Rattle.nest_model.specs.Slot.{Slot}
use Rattle.nest_model.specs.Meaning.{run}
use Rattle.nest_model.specs.Runs.{length-run}

pub run_length : (f : ℕ → Slot) (o n : ℕ) → length (run f o n) ≡ n
run_length f o n = length-run f o n

pub run-first : (f : ℕ → Slot) (a b : ℕ) → a < b → run f a (b - a) ≡ f a ∷ run f (a + 1) (b - (a + 1))
run-first f a b h =
    let s : b - a ≡ suc (b - (a + 1)) = omega arith in
    let t : suc a ≡ a + 1 = omega arith in
    ap (run f a) s ∙ ap (λ p. f a ∷ run f p (b - (a + 1))) t

run-more : (f : ℕ → Slot) (a n : ℕ) → run f a (suc n) ≡ run f a n ++ f (a + n) ∷ []
run-more f a zero = ap (λ k. f k ∷ []) (let e : a ≡ a + 0 = omega arith in e)
run-more f a (suc n) = ap (λ ss. f a ∷ ss) (run-more f (suc a) n ∙ ap (λ k. run f (suc a) n ++ f k ∷ []) (let e : suc a + n ≡ a + suc n = omega arith in e))

pub run-last : (f : ℕ → Slot) (a b : ℕ) → a < b → run f a (b - a) ≡ run f a (b - 1 - a) ++ f (b - 1) ∷ []
run-last f a b h =
    let s : b - a ≡ suc (b - 1 - a) = omega arith in
    let t : a + (b - 1 - a) ≡ b - 1 = omega arith in
    ap (run f a) s ∙ run-more f a (b - 1 - a) ∙ ap (λ k. run f a (b - 1 - a) ++ f k ∷ []) t
