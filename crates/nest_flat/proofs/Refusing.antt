-- The errors of a push: `Overflow`, or a failed allocation.
use Rattle.std.specs.Prelude.{Result, Ok, Err, OnOk, IfErr, IsErrOf, IsOkUnless, Option, Some, None, nat_lt, alloc_error, ◌⊎◌, ◌↔◌}
use Rattle.std.proofs.Common.{◌≡◌, ℕ, suc, ◌<◌, Bool, true, false, List, [], ◌∷◌, ◌++◌, refl, ap, sym, ◌∙◌, inl, inr, arith}
use Rattle.std.proofs.lemmas.Bool.{leb-true, le-leb}
use Rattle.nest_memory.specs.declared.error.Error.{Error}
use Rattle.nest_memory.specs.declared.error.Error.TheVariants.{Memory, Overflow}
use Rattle.nest_model.specs.Checks.{refuse_if, first_of}
use Rattle.nest_model.specs.Decide.{first-none}
use Rattle.nest_model.specs.Layout.{Layout}
use Rattle.nest_flat.specs.Growth.{IsReportedError, pushed_all, refusal_of_all}

-- an exact overflow condition as an error of a push
module _ {X : Type 0} where
  by-ok : (r : Result X Error) (P : Type 0) (b : Bool) → (b ≡ true → P) → (IsErrOf r Overflow ↔ P) → OnOk r (refuse_if b Overflow None ≡ None)
  by-ok (Ok x) P true f e = let h = e.1 (f refl) in cc
  by-ok (Ok x) P false f e = refl
  by-ok (Err g) P b f e = tt

  by-err : (r : Result X Error) (P : Type 0) (b : Bool) → (b ≡ true → P) → (P → b ≡ true) → (IsErrOf r Overflow ↔ P) → IfErr r (λ g. (g ≡ Overflow) ⊎ (g ≡ Memory alloc_error)) → IfErr r (IsReportedError (refuse_if b Overflow None))
  by-err (Ok x) P b f k e h = tt
  by-err (Err g) P b f k e (inl o) = inl (ap (λ c. refuse_if c Overflow None) (k (e.0 (ap Err o))) ∙ ap Some (sym o))
  by-err (Err g) P true f k e (inr m) = let h = e.1 (f refl) in inl (cc)
  by-err (Err g) P false f k e (inr m) = inr (m, refl)

  pub limit-unrefused : (r : Result X Error) (m n : ℕ) → (IsErrOf r Overflow ↔ (m < n)) → OnOk r (refuse_if (nat_lt m n) Overflow None ≡ None)
  limit-unrefused r m n = by-ok r (m < n) (nat_lt m n) (leb-true (suc m) n)

  pub limit-due : (r : Result X Error) (m n : ℕ) → (IsErrOf r Overflow ↔ (m < n)) → IfErr r (λ g. (g ≡ Overflow) ⊎ (g ≡ Memory alloc_error)) → IfErr r (IsReportedError (refuse_if (nat_lt m n) Overflow None))
  limit-due r m n = by-err r (m < n) (nat_lt m n) (leb-true (suc m) n) (le-leb (suc m) n)

-- ---- several items
module _ {A : Type 0} (pushed : Layout → A → Layout) (refusal : Layout → A → Option Error) where
  alone : (r : Option Error) → first_of r None ≡ r
  alone None = refl
  alone (Some e) = refl

  -- after items without error, the error is that of the next item
  pub refusal-next : (xs : List A) (x : A) (a b : Layout) → refusal_of_all pushed refusal a xs ≡ None → b ≡ pushed_all pushed a xs → refusal_of_all pushed refusal a (xs ++ x ∷ []) ≡ refusal b x
  refusal-next [] x a b h e = alone (refusal a x) ∙ ap (λ c. refusal c x) (sym e)
  refusal-next (y ∷ xs) x a b h e =
      let n = first-none (refusal a y) (refusal_of_all pushed refusal (pushed a y) xs) h in
      ap (λ r. first_of r (refusal_of_all pushed refusal (pushed a y) (xs ++ x ∷ []))) n.0 ∙ refusal-next xs x (pushed a y) b n.1 e

-- without a specified error, only an allocation can fail
pub none-due : (e : Error) → IsReportedError None e → e ≡ Memory alloc_error
none-due e (inl h) = cc
none-due e (inr h) = h.0

pub if_err-map : {T E : Type 0} (r : Result T E) (P Q : E → Type 0) → ((e : E) → P e → Q e) → IfErr r P → IfErr r Q
if_err-map (Ok x) P Q f h = h
if_err-map (Err e) P Q f h = f e h
