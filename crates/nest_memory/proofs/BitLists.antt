-- Lists of bits of bytes: their length, their items and their slices.
use Rattle.std.proofs.Common.{◌≡◌, ◌≢◌, ℕ, zero, suc, ◌+◌, ◌-◌, ◌*◌, ◌/◌, ◌%◌, ◌≤◌, ◌<◌, Bool, true, List, [], ◌∷◌, take, drop, length, map, arith, ap, sym, ◌∙◌, refl, nat_eq, get_or, get_or-set_same, get_or-set_other}
use Rattle.std.specs.Prelude.{Some, slice_get, slice_set, ◌++◌}
use Rattle.std.specs.List.{range_with_len}
use Rattle.std.specs.Int.{bit_at}
use Rattle.std.proofs.Common.{inl, inr}
use Rattle.std.proofs.lemmas.Bool.{cases_eq}
use Rattle.std.proofs.lemmas.List.{get_or_read, ext_get_or, length-set, get_or_append_left}
use Rattle.std.proofs.lemmas.List.FromFn.{get_or-map-range_with_len, length-map-range_with_len, take-map-range_with_len, map-range_with_len_more}
use Rattle.nest_memory.specs.Bits.{bit, bits_from}
use Rattle.nest_memory.specs.Sublist.{sublist}

module _ {X : Type 0} (f : ℕ → X) where
  made_get : (o n i : ℕ) → i < n → slice_get (map f (range_with_len o n)) i ≡ Some (f (o + i))
  made_get o zero i h = absurd (omega arith)
  made_get o (suc n) zero h = let e : o ≡ o + 0 = omega arith in ap (λ k. Some (f k)) e
  made_get o (suc n) (suc i) h = let e : o + 1 + i ≡ o + suc i = omega arith in made_get (o + 1) n i (omega arith) ∙ ap (λ k. Some (f k)) e

  made_drop : (o n a : ℕ) → drop a (map f (range_with_len o n)) ≡ map f (range_with_len (o + a) (n - a))
  made_drop o zero zero = refl
  made_drop o zero (suc a) = let z : 0 ≡ 0 - suc a = omega arith in λ i. map f (range_with_len (o + suc a) (z i))
  made_drop o (suc n) zero =
      let e : o ≡ o + 0 = omega arith in
      let m : suc n ≡ suc n - 0 = omega arith in
      λ i. map f (range_with_len (e i) (m i))
  made_drop o (suc n) (suc a) =
      let e : o + 1 + a ≡ o + suc a = omega arith in
      let m : n - a ≡ suc n - suc a = omega arith in
      made_drop (o + 1) n a ∙ λ i. map f (range_with_len (e i) (m i))

  made_cut : (o n a m : ℕ) → a + m ≤ n → sublist (map f (range_with_len o n)) a m ≡ map f (range_with_len (o + a) m)
  made_cut o n a m h = ap (take m) (made_drop o n a) ∙ take-map-range_with_len f (o + a) (n - a) m (omega arith)

pub bits_len : (bytes : List ℕ) (o n : ℕ) → length (bits_from bytes o n) ≡ n
unfolding bits_from
bits_len bytes o n = length-map-range_with_len (bit bytes) o n

pub bits_get : (bytes : List ℕ) (o n i : ℕ) → i < n → slice_get (bits_from bytes o n) i ≡ Some (bit bytes (o + i))
unfolding bits_from
bits_get bytes = made_get (bit bytes)

pub bits_cut : (bytes : List ℕ) (o n a m : ℕ) → a + m ≤ n → sublist (bits_from bytes o n) a m ≡ bits_from bytes (o + a) m
unfolding bits_from
bits_cut bytes = made_cut (bit bytes)

pub bits_more : (bytes : List ℕ) (n : ℕ) → bits_from bytes 0 (n + 1) ≡ bits_from bytes 0 n ++ bit bytes n ∷ []
unfolding bits_from
bits_more bytes n = map-range_with_len_more (bit bytes) 0 n n (omega arith)

-- after a write of a byte: its own bits, and the bits of the others
pub bit_written : (bytes : List ℕ) (q b j : ℕ) → q < length bytes → j / 8 ≡ q → bit (slice_set bytes q b) j ≡ nat_eq (bit_at b (j % 8)) 1
unfolding bit
bit_written bytes q b j h e = ap (λ x. nat_eq (bit_at x (j % 8)) 1) (ap (λ k. get_or (slice_set bytes q b) k 0) e ∙ get_or-set_same bytes q b 0 h)

pub bit_kept : (bytes : List ℕ) (q b j : ℕ) → j / 8 ≢ q → bit (slice_set bytes q b) j ≡ bit bytes j
unfolding bit
bit_kept bytes q b j e = ap (λ x. nat_eq (bit_at x (j % 8)) 1) (get_or-set_other bytes q (j / 8) b 0 e)

-- after a write of a byte that changes at most bit k % 8
pub bit_put_other : (bytes : List ℕ) (k b x j : ℕ) → k < 8 * length bytes → x ≡ get_or bytes (k / 8) x → ((i : ℕ) → i < 8 → i ≢ k % 8 → bit_at b i ≡ bit_at x i) → j ≢ k → bit (slice_set bytes (k / 8) b) j ≡ bit bytes j
unfolding bit
bit_put_other bytes k b x j h e same n =
    elim (cases_eq (j / 8) (k / 8)) [
      | inl q ↦
          let y : x ≡ get_or bytes (k / 8) 0 = get_or_read bytes (k / 8) x (omega arith) e 0 in
          bit_written bytes (k / 8) b j (omega arith) q
          ∙ ap (λ x. nat_eq x 1) (same (j % 8) (omega arith) (omega arith))
          ∙ ap (λ z. nat_eq (bit_at z (j % 8)) 1) (y ∙ ap (λ q. get_or bytes q 0) (sym q))
      | inr d ↦ bit_kept bytes (k / 8) b j d
    ]

pub bits_none : (bytes : List ℕ) (o : ℕ) → bits_from bytes o 0 ≡ []
unfolding bits_from
bits_none bytes o = refl

pub bits_take : (bytes : List ℕ) (o n m : ℕ) → m ≤ n → take m (bits_from bytes o n) ≡ bits_from bytes o m
unfolding bits_from
bits_take bytes o n m h = take-map-range_with_len (bit bytes) o n m h

bits_at : (bytes : List ℕ) (n i : ℕ) (d : Bool) → i < n → get_or (bits_from bytes 0 n) i d ≡ bit bytes i
unfolding bits_from
bits_at bytes n i d h = get_or-map-range_with_len (bit bytes) 0 n i i d h (omega arith)

pub bits_same : (bs cs : List ℕ) (n : ℕ) → ((j : ℕ) → j < n → bit bs j ≡ bit cs j) → bits_from bs 0 n ≡ bits_from cs 0 n
bits_same bs cs n h =
    ext_get_or true _ _ (bits_len bs 0 n ∙ sym (bits_len cs 0 n)) (λ i lt.
    let k : i < n = omega (arith, bits_len bs 0 n) in
    bits_at bs n i true k ∙ h i k ∙ sym (bits_at cs n i true k))

pub bits_pushed : (bs cs : List ℕ) (n : ℕ) (v : Bool) → bit bs n ≡ v → ((j : ℕ) → j < n → bit bs j ≡ bit cs j) → bits_from bs 0 (n + 1) ≡ bits_from cs 0 n ++ v ∷ []
bits_pushed bs cs n v e h =
    let a = bits_more bs n in
    let b = bits_same bs cs n h in
    a ∙ λ i. b i ++ e i ∷ []

pub bits_written : (bs cs : List ℕ) (n k : ℕ) (v : Bool) → k < n → bit bs k ≡ v → ((j : ℕ) → j ≢ k → bit bs j ≡ bit cs j) → bits_from bs 0 n ≡ slice_set (bits_from cs 0 n) k v
bits_written bs cs n k v lt e h =
    ext_get_or true _ _ (bits_len bs 0 n ∙ sym (length-set (bits_from cs 0 n) k v ∙ bits_len cs 0 n)) (λ i l.
    let in_n : i < n = omega (arith, bits_len bs 0 n) in
    let in_cs : k < length (bits_from cs 0 n) = omega (arith, bits_len cs 0 n) in
    bits_at bs n i true in_n ∙ elim (cases_eq i k) [
      | inl same ↦ ap (bit bs) same ∙ e ∙ sym (ap (λ j. get_or (slice_set (bits_from cs 0 n) k v) j true) same ∙ get_or-set_same (bits_from cs 0 n) k v true in_cs)
      | inr differ ↦ h i differ ∙ sym (get_or-set_other (bits_from cs 0 n) k i v true differ ∙ bits_at cs n i true in_n)
    ])

pub bit_appended : (bytes : List ℕ) (x j : ℕ) → j < 8 * length bytes → bit (bytes ++ x ∷ []) j ≡ bit bytes j
unfolding bit
bit_appended bytes x j h = ap (λ b. nat_eq (bit_at b (j % 8)) 1) (get_or_append_left bytes (x ∷ []) 0 (j / 8) (omega arith))

pub ruleset bit_lists = (bits_len, bits_get, bits_cut, bits_none, bits_take)
