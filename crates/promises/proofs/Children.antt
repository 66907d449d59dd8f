-- Children that fit, one after another.
use Rattle.std.proofs.Common.{◌≡◌, ℕ, zero, suc, ◌<◌, length, get_or, subst, arith}
use Rattle.std.specs.Prelude.{List as Seq, [], ◌∷◌}
use Rattle.nest_array.specs.declared.any.AnyArray.{AnyArray}
use Rattle.nest_array.specs.Seen.{layout_of, layouts_of}
use Rattle.nest_model.specs.Array.{AreArrays, IsArray}

-- the first n
abbrev pub FitBefore : Seq AnyArray → ℕ → Type 0
FitBefore xs zero = Unit {0}
FitBefore [] (suc n) = Unit {0}
FitBefore (x ∷ xs) (suc n) = IsArray (layout_of x) × FitBefore xs n

pub one-more : (xs : Seq AnyArray) (n : ℕ) (x : AnyArray) → n < length xs → x ≡ get_or xs n x → IsArray (layout_of x) → FitBefore xs n → FitBefore xs (suc n)
one-more [] n x l e one before = absurd (omega arith)
one-more (y ∷ xs) zero x l e one before = (subst (λ z. IsArray (layout_of z)) e one, tt)
one-more (y ∷ xs) (suc n) x l e one before = (before.0, one-more xs n x (omega arith) e one before.1)

pub all-fit : (xs : Seq AnyArray) → FitBefore xs (length xs) → AreArrays (layouts_of xs)
all-fit [] fit = tt
all-fit (x ∷ xs) fit = (fit.0, all-fit xs fit.1)
