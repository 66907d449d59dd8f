-- What is read of each slot is that of the slot, and the error is that of the first one.
use Rattle.std.proofs.Common.{◌≡◌, ℕ, zero, suc, ◌+◌, ◌<◌, List, [], ◌∷◌, ◌++◌, length, get_or, Result, Ok, Err, refl, ap, sym, ◌∙◌, add-one, inl, inr, arith}
use Rattle.std.specs.Prelude.{IfOk, IfErr, ◌⊎◌}
use Rattle.std.proofs.lemmas.Bool.{cases_eq}
use Rattle.std.proofs.lemmas.List.{length_push, get_or_push, get_or_append_left}
use Rattle.ipc_flatbuf.specs.ReadResults.{◌>>=◌}
use Rattle.ipc_flatbuf.specs.declared.error.IpcReadError.{IpcReadError}
use Rattle.ipc_arrays.specs.EachSlot.{each_slot}

-- as many as slots, each that of its slot
pub record IsEach {A : Type 0} (f : ℕ → Result A IpcReadError) (n : ℕ) (xs : List A) : Type 0 where
  pub long : length xs ≡ n
  pub at : (i : ℕ) (d : A) → i < n → f i ≡ Ok (get_or xs i d)

-- the error of a slot
pub record IsErrorOf {A : Type 0} (f : ℕ → Result A IpcReadError) (n : ℕ) (e : IpcReadError) : Type 0 where
  pub slot : ℕ
  pub within : slot < n
  pub fails : f slot ≡ Err e

module _ {A : Type 0} (f : ℕ → Result A IpcReadError) where
  pub each_more : (n : ℕ) (xs : List A) (x : A) → each_slot f n ≡ Ok xs → f n ≡ Ok x → each_slot f (n + 1) ≡ Ok (xs ++ x ∷ [])
  each_more n xs x h e = ap (each_slot f) (add-one n) ∙ rw (h, e) refl

  pub each_fails : (i k : ℕ) (xs : List A) (e : IpcReadError) → each_slot f i ≡ Ok xs → f i ≡ Err e → each_slot f (i + 1 + k) ≡ Err e
  each_fails i zero xs e h w = ap (each_slot f) (let s : i + 1 + 0 ≡ suc i = omega arith in s) ∙ rw (h, w) refl
  each_fails i (suc k) xs e h w = ap (each_slot f) (let s : i + 1 + suc k ≡ suc (i + 1 + k) = omega arith in s) ∙ rw (each_fails i k xs e h w) refl

  pub each_is : (n : ℕ) → IfOk (each_slot f n) (IsEach f n)
  each_is zero = record { long = refl; at = λ i d lt. absurd (omega arith) }
  each_is (suc n) = by (each_slot f n) (f n) refl (each_is n)
    where
      at_of : (xs : List A) (x : A) → f n ≡ Ok x → IsEach f n xs → (i : ℕ) (d : A) → i < suc n → (i ≡ n) ⊎ (i ≡ n → ⊥) → f i ≡ Ok (get_or (xs ++ x ∷ []) i d)
      at_of xs x w h i d lt (inl e) = ap f e ∙ w ∙ ap (λ (y : A). Ok y) (sym (get_or_push xs x d i (h.long ∙ sym e)))
      at_of xs x w h i d lt (inr ne) = h.at i d (omega arith) ∙ ap (λ (y : A). Ok y) (sym (get_or_append_left xs (x ∷ []) d i (omega (arith, h.long))))

      by : (r : Result (List A) IpcReadError) (s : Result A IpcReadError) → f n ≡ s → IfOk r (IsEach f n) → IfOk (r >>= λ xs. s >>= λ x. Ok (xs ++ x ∷ [])) (IsEach f (suc n))
      by (Err e) s w h = tt
      by (Ok xs) (Err e) w h = tt
      by (Ok xs) (Ok x) w h = record { long = omega (arith, length_push xs x, h.long); at = λ i d lt. at_of xs x w h i d lt (cases_eq i n) }

  pub each_error : (n : ℕ) → IfErr (each_slot f n) (IsErrorOf f n)
  each_error zero = tt
  each_error (suc n) = by (each_slot f n) (f n) refl (each_error n)
    where
      by : (r : Result (List A) IpcReadError) (s : Result A IpcReadError) → f n ≡ s → IfErr r (IsErrorOf f n) → IfErr (r >>= λ xs. s >>= λ x. Ok (xs ++ x ∷ [])) (IsErrorOf f (suc n))
      by (Err e) s w h = record { slot = h.slot; within = omega (arith, h.within); fails = h.fails }
      by (Ok xs) (Err e) w h = record { slot = n; within = omega arith; fails = w }
      by (Ok xs) (Ok x) w h = tt
