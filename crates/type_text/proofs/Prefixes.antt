-- Prefixes and terminated names: the results of std's `strip_prefix` and `split_once`.
use Rattle.std.specs.Str.Pattern.{LacksTextAt}
use Rattle.std.proofs.Common.{◌≡◌, ℕ, zero, suc, ◌≤◌, ◌<◌, Bool, true, false, cond, eqb, List, [], ◌∷◌, ◌++◌, length, take, drop, Some, None, refl, ap, ◌∙◌, arith}
use Rattle.std.proofs.lemmas.Bool.{eqb-true}
use Rattle.std.proofs.Common.{eq-eqb}
use Rattle.type_text.specs.TypeParser.{after_prefix, split_first}

pub after-front : (p rest : List ℕ) → after_prefix p (p ++ rest) ≡ Some rest
after-front [] rest = refl
after-front (h ∷ hs) rest = rw (eq-eqb h h refl) (after-front hs rest)

pub after-is : (p s rest : List ℕ) → s ≡ p ++ rest → after_prefix p s ≡ Some rest
after-is p s rest e = ap (after_prefix p) e ∙ after-front p rest

pub after-none : (p s : List ℕ) → ((rest : List ℕ) → s ≡ p ++ rest → ⊥) → after_prefix p s ≡ None
after-none [] s lacks = absurd (lacks s refl)
after-none (h ∷ hs) [] lacks = refl
after-none (h ∷ hs) (b ∷ bs) lacks =
    let P : Bool → Type 0 = λ v. eqb h b ≡ v → cond v (after_prefix hs bs) None ≡ None in
    (elim (eqb h b) as P [
      | true ↦ λ e. after-none hs bs (λ rest q. let same : h ≡ b = eqb-true h b e in lacks rest cc)
      | false ↦ λ e. refl
    ]) refl

pub after-some : (p s rest : List ℕ) → after_prefix p s ≡ Some rest → s ≡ p ++ rest
after-some [] s rest e = cc
after-some (h ∷ hs) [] rest e = absurd cc
after-some (h ∷ hs) (b ∷ bs) rest e =
    let P : Bool → Type 0 = λ v. eqb h b ≡ v → cond v (after_prefix hs bs) None ≡ Some rest → b ∷ bs ≡ h ∷ (hs ++ rest) in
    (elim (eqb h b) as P [
      | true ↦ λ q r. let same : h ≡ b = eqb-true h b q in let more : bs ≡ hs ++ rest = after-some hs bs rest r in cc
      | false ↦ λ q r. absurd cc
    ]) refl e

pub split-found : (p s : List ℕ) (i : ℕ) (rest : List ℕ) → 1 ≤ length p → ((k : ℕ) → k < i → LacksTextAt p s k) → drop i s ≡ p ++ rest → split_first p s ≡ Some (take i s, rest)
unfolding split_first
split-found [] s i rest long lacks e = absurd (omega arith)
split-found (h ∷ hs) [] zero rest long lacks e = absurd cc
split-found (h ∷ hs) [] (suc i) rest long lacks e = absurd cc
split-found (h ∷ hs) (b ∷ bs) zero rest long lacks e = rw (after-is (h ∷ hs) (b ∷ bs) rest e) refl
split-found (h ∷ hs) (b ∷ bs) (suc i) rest long lacks e =
    rw (after-none (h ∷ hs) (b ∷ bs) (lacks 0 (omega arith)), split-found (h ∷ hs) bs i rest long (λ k lt. lacks (suc k) (omega arith)) e) refl

pub split-none : (p s : List ℕ) → 1 ≤ length p → ((k : ℕ) → k ≤ length s → LacksTextAt p s k) → split_first p s ≡ None
unfolding split_first
split-none p [] long lacks = refl
split-none p (b ∷ bs) long lacks =
    rw (after-none p (b ∷ bs) (lacks 0 (omega arith)), split-none p bs long (λ k le. lacks (suc k) (omega arith))) refl
