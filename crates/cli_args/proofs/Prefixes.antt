-- Prefixes of texts: the result of std's `strip_prefix`.
use Rattle.std.proofs.Common.{◌≡◌, ℕ, Bool, true, false, cond, eqb, List, [], ◌∷◌, ◌++◌, Some, None, refl, ap, ◌∙◌, eq-eqb}
use Rattle.std.proofs.lemmas.Bool.{eqb-true}
use Rattle.cli_args.specs.ConditionTokens.{after_prefix}

pub after-front : (p rest : List ℕ) → after_prefix p (p ++ rest) ≡ Some rest
after-front [] rest = refl
after-front (h ∷ hs) rest = rw (eq-eqb h h refl) (after-front hs rest)

pub after-is : (p s rest : List ℕ) → s ≡ p ++ rest → after_prefix p s ≡ Some rest
after-is p s rest e = ap (after_prefix p) e ∙ after-front p rest

pub after-none : (p s : List ℕ) → ((rest : List ℕ) → s ≡ p ++ rest → ⊥) → after_prefix p s ≡ None
after-none [] s lacks = absurd (lacks s refl)
after-none (h ∷ hs) [] lacks = refl
after-none (h ∷ hs) (b ∷ bs) lacks =
    let P : Bool → Type 0 = λ v. eqb h b ≡ v → cond v (after_prefix hs bs) None ≡ None in
    (elim (eqb h b) as P [
      | true ↦ λ e. after-none hs bs (λ rest q. let same : h ≡ b = eqb-true h b e in lacks rest cc)
      | false ↦ λ e. refl
    ]) refl
