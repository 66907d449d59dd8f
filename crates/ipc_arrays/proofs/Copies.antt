-- Loops that copy values and bits.
use Rattle.std.proofs.Common.{◌≡◌, ℕ, suc, ◌+◌, ◌-◌, ◌*◌, ◌<◌, ◌≤◌, List, [], ◌∷◌, ◌++◌, length, drop, map, refl, sym, ap, ◌∙◌, append_assoc, arith}
use Rattle.std.specs.Prelude.{ℤ}
use Rattle.std.proofs.Math.Nat.{suc-mul}
use Rattle.std.proofs.lemmas.List.{append-nil, map-append}
use Rattle.std.proofs.lemmas.List.FromFn.{length-map-range_with_len}
use Rattle.nest_memory.specs.Bits.{bit, bits_from}
use Rattle.ipc_arrays.specs.FixedWidth.{ByteFormat, decoded_natives}

pub values_more : {A : Type 0} (f : A → List ℤ) (format : ByteFormat) (front new : List A) (x : A) (slots i : ℕ) (from next : List ℕ) (total : List (List ℤ)) → i < slots → new ≡ front ++ x ∷ [] → f x ≡ format.numbers from → next ≡ drop format.size from
    → map f front ++ decoded_natives format (slots - i) from ≡ total → map f new ++ decoded_natives format (slots - (i + 1)) next ≡ total
unfolding decoded_natives
values_more {A} f format front new x slots i from next total lt e value far so_far =
    let k : slots - i ≡ suc (slots - (i + 1)) = omega arith in
    let rest : List (List ℤ) = decoded_natives format (slots - (i + 1)) (drop format.size from) in
    let one : map f front ++ decoded_natives format (slots - i) from ≡ map f front ++ (format.numbers from ∷ rest) = rw k refl in
    let two : map f new ++ decoded_natives format (slots - (i + 1)) next ≡ (map f front ++ f x ∷ []) ++ rest = rw (e, far, map-append f front (x ∷ [])) refl in
    two ∙ append_assoc (map f front) (f x ∷ []) rest ∙ ap (λ (z : List ℤ). map f front ++ (z ∷ rest)) value ∙ sym one ∙ so_far

pub values_done : {A : Type 0} (f : A → List ℤ) (format : ByteFormat) (front : List A) (slots i : ℕ) (from : List ℕ) (total : List (List ℤ)) → slots ≤ i → map f front ++ decoded_natives format (slots - i) from ≡ total → map f front ≡ total
unfolding decoded_natives
values_done f format front slots i from total le so_far =
    let k : slots - i ≡ 0 = omega arith in
    let one : map f front ++ decoded_natives format (slots - i) from ≡ map f front = rw k (append-nil (map f front)) in
    sym one ∙ so_far

pub room_left : (slots i size n m : ℕ) → i < slots → (slots - i) * size ≤ n → m + size ≡ n → (slots - (i + 1)) * size ≤ m
room_left slots i size n m lt enough e =
    let k : slots - i ≡ suc (slots - (i + 1)) = omega arith in
    let one : (slots - i) * size ≡ (slots - (i + 1)) * size + size = rw k (suc-mul (slots - (i + 1)) size) in
    omega (arith, one, enough, e)

pub bits_long : (bytes : List ℕ) (n : ℕ) → length (bits_from bytes 0 n) ≡ n
unfolding bits_from
bits_long bytes n = length-map-range_with_len (bit bytes) 0 n
