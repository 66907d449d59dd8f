-- Unset bits, counted a byte at a time.
use Rattle.std.proofs.Common.{◌≡◌, ℕ, zero, suc, ◌+◌, ◌-◌, ◌*◌, ◌/◌, ◌%◌, ◌^◌, ◌≤◌, ◌<◌, Bool, true, false, not, cond, List, [], ◌∷◌, ◌++◌, map, arith, ap, sym, ◌∙◌, refl, nat_eq, get_or, count_by, take, replicate, IsTrue, ◌⊎◌, inl, inr}
use Rattle.std.specs.List.{range_with_len}
use Rattle.std.specs.Int.{bit_at, w8, count_zeros}
use lib.Count.{ones, ones_step, ones-le}
use Rattle.std.proofs.lemmas.List.Sums.{sum_by-cons, sum_by-append, count_by-le-length}
use Rattle.std.proofs.lemmas.Nat.Bits.{bit_at-suc, bit_at_not, bit_at-lt}
use Rattle.nest_memory.specs.Bits.{bit, bits_from}
use Rattle.nest_memory.specs.Sublist.{sublist}
use Rattle.std.proofs.lemmas.List.{get_or-take}
use Rattle.std.proofs.lemmas.Bool.{eqb-true}
use Rattle.nest_memory.proofs.BitLists.{bits_cut, bits_len, bits_same, bits_none}

-- a digit as a Boolean and back
digit_cond : (b : ℕ) → b < 2 → cond (nat_eq b 1) 1 0 ≡ b
digit_cond zero h = refl
digit_cond (suc zero) h = refl
digit_cond (suc (suc n)) h = absurd (omega arith)

-- the unset indices of the list are the set digits of m
ones_counted : (f : ℕ → Bool) (o k m : ℕ) → m < 2 ^ k → ((i : ℕ) → i < k → not (f (o + i)) ≡ nat_eq (bit_at m i) 1) → count_by not (map f (range_with_len o k)) ≡ ones m
ones_counted f o zero m h same = omega (arith, ones-le 0 m h)
ones_counted f o (suc k) m h same =
    let p : 2 ^ suc k ≡ 2 * 2 ^ k = omega arith in
    let half : m / 2 < 2 ^ k = omega arith in
    let at : o ≡ o + 0 = omega arith in
    let low : bit_at m 0 ≡ m % 2 = omega arith in
    let e : not (f o) ≡ nat_eq (m % 2) 1 = ap (λ x. not (f x)) at ∙ same 0 (omega arith) ∙ ap (λ b. nat_eq b 1) low in
    let d : cond (not (f o)) 1 0 ≡ m % 2 = ap (λ b. cond b 1 0) e ∙ digit_cond (m % 2) (omega arith) in
    let rest = ones_counted f (o + 1) k (m / 2) half (λ i lt.
    let j : o + 1 + i ≡ o + suc i = omega arith in
    ap (λ x. not (f x)) j ∙ same (suc i) (omega arith) ∙ ap (λ b. nat_eq b 1) (bit_at-suc m i)) in
    omega (arith, sum_by-cons (λ b. cond (not b) 1 0) (f o) (map f (range_with_len (o + 1) k)), d, rest, ones_step m)

flip : (b : ℕ) → b < 2 → not (nat_eq b 1) ≡ nat_eq (1 - b) 1
flip zero h = refl
flip (suc zero) h = refl
flip (suc (suc n)) h = absurd (omega arith)

-- the unset bits of one byte
pub byte_unset : (bytes : List ℕ) (q b : ℕ) → get_or bytes q 0 ≡ b → b < 256 → count_by not (bits_from bytes (8 * q) 8) ≡ count_zeros w8 b
unfolding bit bits_from
byte_unset bytes q b e h =
    ones_counted (bit bytes) (8 * q) 8 (255 - b) (omega arith) (λ i lt.
    let quotient : (8 * q + i) / 8 ≡ q = omega arith in
    let rest : (8 * q + i) % 8 ≡ i = omega arith in
    (λ z. not (nat_eq (bit_at (get_or bytes (quotient z) 0) (rest z)) 1))
    ∙ ap (λ x. not (nat_eq (bit_at x i) 1)) e
    ∙ flip (bit_at b i) (bit_at-lt b i)
    ∙ ap (λ x. nat_eq x 1) (sym (bit_at_not w8 b i (omega arith) lt)))

-- bits appended to bits
range_append : {X : Type 0} (f : ℕ → X) (o a b : ℕ) → map f (range_with_len o (a + b)) ≡ map f (range_with_len o a) ++ map f (range_with_len (o + a) b)
range_append f o zero b =
    let n : 0 + b ≡ b = omega arith in
    let s : o ≡ o + 0 = omega arith in
    λ i. map f (range_with_len (s i) (n i))
range_append f o (suc a) b =
    let n : suc a + b ≡ suc (a + b) = omega arith in
    let s : o + 1 + a ≡ o + suc a = omega arith in
    ap (λ k. map f (range_with_len o k)) n
    ∙ ap (λ xs. f o ∷ xs) (range_append f (o + 1) a b)
    ∙ ap (λ k. f o ∷ (map f (range_with_len (o + 1) a) ++ map f (range_with_len k b))) s

pub bits_append : (bytes : List ℕ) (o a b : ℕ) → bits_from bytes o (a + b) ≡ bits_from bytes o a ++ bits_from bytes (o + a) b
unfolding bits_from
bits_append bytes = range_append (bit bytes)

pub unset_append : (bytes : List ℕ) (o a b : ℕ) → count_by not (bits_from bytes o (a + b)) ≡ count_by not (bits_from bytes o a) + count_by not (bits_from bytes (o + a) b)
unset_append bytes o a b = ap (count_by not) (bits_append bytes o a b) ∙ sum_by-append (λ x. cond (not x) 1 0) (bits_from bytes o a) (bits_from bytes (o + a) b)

-- at most as many as there are bits
pub unset_le : (bytes : List ℕ) (o n : ℕ) → count_by not (bits_from bytes o n) ≤ n
unset_le bytes o n = omega (arith, count_by-le-length not (bits_from bytes o n), bits_len bytes o n)

-- no bits, and one more bit
pub unset_none : (bytes : List ℕ) (o : ℕ) → count_by not (bits_from bytes o 0) ≡ 0
unfolding bits_from
unset_none bytes o = refl

unset_one : (bytes : List ℕ) (o : ℕ) → count_by not (bits_from bytes o 1) ≡ cond (not (bit bytes o)) 1 0
unfolding bits_from
unset_one bytes o = omega (arith, sum_by-cons (λ b. cond (not b) 1 0) (bit bytes o) [])

pub unset_more_yes : (bytes : List ℕ) (o n : ℕ) → not (bit bytes (o + n)) ≡ true → count_by not (bits_from bytes o (n + 1)) ≡ count_by not (bits_from bytes o n) + 1
unset_more_yes bytes o n e =
    let d : cond (not (bit bytes (o + n))) 1 0 ≡ suc zero = ap (λ b. cond b 1 0) e in
    omega (arith, unset_append bytes o n 1, unset_one bytes (o + n), d)

pub unset_more_no : (bytes : List ℕ) (o n : ℕ) → not (bit bytes (o + n)) ≡ false → count_by not (bits_from bytes o (n + 1)) ≡ count_by not (bits_from bytes o n)
unset_more_no bytes o n e =
    let d : cond (not (bit bytes (o + n))) 1 0 ≡ zero = ap (λ b. cond b 1 0) e in
    omega (arith, unset_append bytes o n 1, unset_one bytes (o + n), d)

-- of a slice, and of the bits before and after it
unset_around : (bytes : List ℕ) (o n a m : ℕ) → a + m ≤ n → count_by not (bits_from bytes o n) ≡ count_by not (bits_from bytes o a) + count_by not (bits_from bytes (o + a) m) + count_by not (bits_from bytes (o + (a + m)) (n - (a + m)))
unset_around bytes o n a m h =
    let e : n ≡ a + (m + (n - (a + m))) = omega arith in
    let t = ap (λ k. count_by not (bits_from bytes o k)) e in
    let s : o + a + m ≡ o + (a + m) = omega arith in
    let u = ap (λ k. count_by not (bits_from bytes k (n - (a + m)))) s in
    omega (arith, t, u, unset_append bytes o a (m + (n - (a + m))), unset_append bytes (o + a) m (n - (a + m)))

unset_cut : (bytes : List ℕ) (bits : List Bool) (o n a m : ℕ) → bits_from bytes o n ≡ bits → a + m ≤ n → count_by not (sublist bits a m) ≡ count_by not (bits_from bytes (o + a) m)
unset_cut bytes bits o n a m e h = ap (λ xs. count_by not (sublist xs a m)) (sym e) ∙ ap (count_by not) (bits_cut bytes o n a m h)

-- if the count of the list is known, so is that of a slice that is all of it, or that of any slice if the count is 0
pub unset_kept : (bytes : List ℕ) (bits : List Bool) (o n a m k : ℕ) → bits_from bytes o n ≡ bits → a + m ≤ n → (k ≡ 0) ⊎ (m ≡ n) → k ≡ count_by not (bits_from bytes o n) → k ≡ count_by not (sublist bits a m)
unset_kept bytes bits o n a m k e h (inl z) c = omega (arith, unset_cut bytes bits o n a m e h, unset_around bytes o n a m h)
unset_kept bytes bits o n a m k e h (inr w) c =
    omega (arith, unset_cut bytes bits o n a m e h, unset_around bytes o n a m h, unset_le bytes o a, unset_le bytes (o + (a + m)) (n - (a + m)))

-- and that of any slice, if the bits around it were counted
pub unset_between : (bytes : List ℕ) (bits : List Bool) (o n a m k before after : ℕ) → bits_from bytes o n ≡ bits → a + m ≤ n → k ≡ count_by not (bits_from bytes o n) → before ≡ count_by not (bits_from bytes o a) → after ≡ count_by not (bits_from bytes (o + (a + m)) (n - (a + m))) → (before + after ≤ k) × (k - before - after ≡ count_by not (sublist bits a m))
unset_between bytes bits o n a m k before after e h c p q =
    let x = unset_cut bytes bits o n a m e h in
    let y = unset_around bytes o n a m h in
    (omega arith, omega arith)

-- one more byte
pub unset_byte_more : (bytes : List ℕ) (first i b : ℕ) → get_or bytes (first + i) 0 ≡ b → b < 256 → count_by not (bits_from bytes (8 * first) (8 * (i + 1))) ≡ count_by not (bits_from bytes (8 * first) (8 * i)) + count_zeros w8 b
unset_byte_more bytes first i b e h =
    let n : 8 * (i + 1) ≡ 8 * i + 8 = omega arith in
    let s : 8 * first + 8 * i ≡ 8 * (first + i) = omega arith in
    ap (λ m. count_by not (bits_from bytes (8 * first) m)) n
    ∙ unset_append bytes (8 * first) (8 * i) 8
    ∙ ap (λ m. count_by not (bits_from bytes (8 * first) (8 * i)) + count_by not (bits_from bytes m 8)) s
    ∙ ap (λ m. count_by not (bits_from bytes (8 * first) (8 * i)) + m) (byte_unset bytes (first + i) b e h)

-- part of a byte, full bytes, and part of a byte
pub unset_parts : (bytes : List ℕ) (start head whole tail : ℕ) → (0 < whole → (start + head) % 8 ≡ 0) → count_by not (bits_from bytes start head) + count_by not (bits_from bytes (8 * ((start + head) / 8)) (8 * whole)) + count_by not (bits_from bytes (start + head + 8 * whole) tail) ≡ count_by not (bits_from bytes start (head + 8 * whole + tail))
unset_parts bytes start head whole tail h =
    let e = middle whole h in
    let s : start + (head + 8 * whole) ≡ start + head + 8 * whole = omega arith in
    let t = ap (λ k. count_by not (bits_from bytes k tail)) s in
    omega (arith, unset_append bytes start head (8 * whole), unset_append bytes start (head + 8 * whole) tail, e, t)
  where
    middle : (whole : ℕ) → (0 < whole → (start + head) % 8 ≡ 0) → count_by not (bits_from bytes (8 * ((start + head) / 8)) (8 * whole)) ≡ count_by not (bits_from bytes (start + head) (8 * whole))
    middle zero h = unset_none bytes (8 * ((start + head) / 8)) ∙ sym (unset_none bytes (start + head))
    middle (suc n) h =
        let z = h (omega arith) in
        let e : 8 * ((start + head) / 8) ≡ start + head = omega arith in
        ap (λ k. count_by not (bits_from bytes k (8 * suc n))) e

-- ---- bits of one value
pub bits_filled : (bytes : List ℕ) (o k : ℕ) (v : Bool) → ((j : ℕ) → o ≤ j → j < o + k → bit bytes j ≡ v) → bits_from bytes o k ≡ replicate k v
unfolding bits_from
bits_filled bytes o k v = filled (bit bytes) o k
  where
    filled : (f : ℕ → Bool) (o k : ℕ) → ((j : ℕ) → o ≤ j → j < o + k → f j ≡ v) → map f (range_with_len o k) ≡ replicate k v
    filled f o zero h = refl
    filled f o (suc k) h =
        let here = h o (omega arith) (omega arith) in
        let rest = filled f (o + 1) k (λ j low high. h j (omega arith) (omega arith)) in
        λ i. here i ∷ rest i

-- the first n bits are kept, and k bits of one value follow
pub bits_extended : (bs cs : List ℕ) (n k : ℕ) (v : Bool) → ((j : ℕ) → n ≤ j → j < n + k → bit bs j ≡ v) → ((j : ℕ) → j < n → bit bs j ≡ bit cs j) → bits_from bs 0 (n + k) ≡ bits_from cs 0 n ++ replicate k v
bits_extended bs cs n k v filled keeps =
    let z : 0 + n ≡ n = omega arith in
    let a = bits_same bs cs n keeps in
    let b = bits_filled bs n k v filled in
    bits_append bs 0 n k ∙ ap (λ m. bits_from bs 0 n ++ bits_from bs m k) z ∙ λ i. a i ++ b i

-- a bit by its byte
pub bit_of_byte : (bytes : List ℕ) (j b : ℕ) (v : Bool) → get_or bytes (j / 8) 0 ≡ b → nat_eq (bit_at b (j % 8)) 1 ≡ v → bit bytes j ≡ v
unfolding bit
bit_of_byte bytes j b v e h = ap (λ x. nat_eq (bit_at x (j % 8)) 1) e ∙ h

pub bit_same_byte : (bs cs : List ℕ) (j : ℕ) → get_or bs (j / 8) 0 ≡ get_or cs (j / 8) 0 → bit bs j ≡ bit cs j
unfolding bit
bit_same_byte bs cs j e = ap (λ x. nat_eq (bit_at x (j % 8)) 1) e

-- the bytes of the first bits
pub bit_take : (bytes cs : List ℕ) (q j : ℕ) → cs ≡ take q bytes → j < 8 * q → bit cs j ≡ bit bytes j
bit_take bytes cs q j e h = bit_same_byte cs bytes j (ap (λ xs. get_or xs (j / 8) 0) e ∙ get_or-take q bytes (j / 8) 0 (omega arith))

-- no bits if the length is 0
pub bits_empty : (bytes : List ℕ) (o n : ℕ) (ys : List Bool) → bits_from bytes o n ≡ ys → (IsTrue (nat_eq n 0) → ys ≡ []) × (ys ≡ [] → IsTrue (nat_eq n 0))
unfolding bits_from
bits_empty bytes o zero ys e = (λ t. sym e, λ t. refl)
bits_empty bytes o (suc n) ys e = (λ t. absurd (omega (arith, eqb-true (suc n) 0 t)), λ f. absurd cc)

-- ---- from both ends
bits_one : (bytes : List ℕ) (o : ℕ) → bits_from bytes o 1 ≡ bit bytes o ∷ []
unfolding bits_from
bits_one bytes o = refl

pub bits_first : (bytes : List ℕ) (f b : ℕ) → f < b → bits_from bytes f (b - f) ≡ bit bytes f ∷ bits_from bytes (f + 1) (b - (f + 1))
bits_first bytes f b h =
    let s : b - f ≡ 1 + (b - (f + 1)) = omega arith in
    ap (bits_from bytes f) s ∙ bits_append bytes f 1 (b - (f + 1)) ∙ ap (λ xs. xs ++ bits_from bytes (f + 1) (b - (f + 1))) (bits_one bytes f)

pub bits_last : (bytes : List ℕ) (f b : ℕ) → f < b → bits_from bytes f (b - f) ≡ bits_from bytes f (b - 1 - f) ++ bit bytes (b - 1) ∷ []
bits_last bytes f b h =
    let s : b - f ≡ (b - 1 - f) + 1 = omega arith in
    let t : f + (b - 1 - f) ≡ b - 1 = omega arith in
    ap (bits_from bytes f) s ∙ bits_append bytes f (b - 1 - f) 1 ∙ ap (λ k. bits_from bytes f (b - 1 - f) ++ bits_from bytes k 1) t
    ∙ ap (λ xs. bits_from bytes f (b - 1 - f) ++ xs) (bits_one bytes (b - 1))

pub bits_gone : (bytes : List ℕ) (f b : ℕ) → f ≡ b → bits_from bytes f (b - f) ≡ []
bits_gone bytes f b e =
    let z : b - f ≡ 0 = omega arith in
    ap (bits_from bytes f) z ∙ bits_none bytes f
