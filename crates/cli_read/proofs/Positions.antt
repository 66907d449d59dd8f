-- Sorted indices, and positions among them.
use Rattle.std.proofs.Common.{◌≡◌, ℕ, ◌+◌, ◌<◌, List, [], ◌∷◌, ◌++◌, length, take, get_or, sym, ap, ◌∙◌}
use Rattle.std.specs.List.{AllByRecursion, Contains}
use Rattle.std.specs.List.Sorted.{IsPermutation}
use Rattle.std.proofs.lemmas.List.{map-append, take_more}
use Rattle.std.proofs.lemmas.List.Elements.{All-contains_itself}
use Rattle.std.proofs.lemmas.List.Sorted.{All-permutation, IsPermutation-sym}
use Rattle.cli_read.specs.Indices.{HaveRanks, IsElementAt, AreElementsOf}

pub all-both : {X : Type 0} (P : X → Type 0) (xs ys : List X) → AllByRecursion P xs → AllByRecursion P ys → AllByRecursion P (xs ++ ys)
all-both P [] ys h k = k
all-both P (x ∷ xs) ys h k = (h.0, all-both P xs ys h.1 k)

pub ranks-more : (xs ps rs : List ℕ) (i p r : ℕ) → i < length ps → p ≡ get_or ps i 0 → IsElementAt xs r p → HaveRanks xs (take i ps) rs → HaveRanks xs (take (i + 1) ps) (rs ++ r ∷ [])
ranks-more xs ps rs i p r h e at are = (
  map-append (λ k. get_or xs k 0) rs (r ∷ []) ∙ ap (λ zs. zs ++ get_or xs r 0 ∷ []) are.0 ∙ ap (λ (q : ℕ). take i ps ++ q ∷ []) (at.1 ∙ e) ∙ sym (take_more ps i 0 h),
  all-both (λ k. k < length xs) rs (r ∷ []) are.1 (at.0, tt),
)

pub stand-shuffled : (wanted risen : List ℕ) → IsPermutation wanted risen → AreElementsOf risen wanted
stand-shuffled wanted risen same = All-permutation (Contains risen) risen wanted (IsPermutation-sym wanted risen same) (All-contains_itself risen)
