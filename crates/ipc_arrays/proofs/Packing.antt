-- Loops that build the bytes of a bitmap.
use Rattle.std.proofs.Common.{◌≡◌, ℕ, suc, ◌+◌, ◌-◌, ◌*◌, ◌^◌, ◌<◌, ◌≤◌, min, Bool, true, false, List, [], ◌∷◌, ◌++◌, map, length, take, drop, append_assoc, sym, ap, ◌∙◌, arith}
use Rattle.std.specs.Prelude.{slice_get, Some}
use Rattle.std.specs.Int.{from_bool, div_ceil}
use Rattle.std.proofs.Math.Nat.{pow-le-pow_right, pow-succ'}
use Rattle.std.proofs.lemmas.List.{length-take, length-drop, drop_more, take_min}
use Rattle.std.proofs.lemmas.Option.{get_or_from_slice_get}
use Rattle.nest_memory.specs.Sublist.{sublist}
use Rattle.std.specs.List.{range_with_len}
use Rattle.std.proofs.lemmas.List.FromFn.{map-range_with_len_more}
use Rattle.ipc_arrays.specs.Bitmaps.{byte_value, byte_from, bitmap_bytes}

number_small : (bits : List Bool) → byte_value bits < 2 ^ length bits
unfolding byte_value
number_small [] = omega arith
number_small (true ∷ bits) = let e : 2 ^ suc (length bits) ≡ 2 * 2 ^ length bits = pow-succ' 2 (length bits) in omega (arith, number_small bits)
number_small (false ∷ bits) = let e : 2 ^ suc (length bits) ≡ 2 * 2 ^ length bits = pow-succ' 2 (length bits) in omega (arith, number_small bits)

-- bits from an index on, with the one before them
cut_more : (bits : List Bool) (p q i : ℕ) (b : Bool) → slice_get bits p ≡ Some b → p < length bits → q ≡ p + 1 → sublist bits p (suc i) ≡ b ∷ sublist bits q i
cut_more bits p q i b is lt e =
    ap (take (suc i)) (drop_more bits p b lt) ∙ (λ w. get_or_from_slice_get bits p b b is w ∷ take i (drop (sym e w) bits))

number_more : (b : Bool) (bits : List Bool) → byte_value (b ∷ bits) ≡ 2 * byte_value bits + from_bool b
unfolding byte_value
number_more true bits = omega arith
number_more false bits = omega arith

-- one more bit in front
pub byte_more : (bits : List Bool) (first count i byte : ℕ) (b : Bool) → i < count → count ≤ 8 → first + count ≤ length bits → byte ≡ byte_value (sublist bits (first + (count - i)) i) → slice_get bits (first + (count - 1 - i)) ≡ Some b
    → 2 * byte + from_bool b ≡ byte_value (sublist bits (first + (count - (i + 1))) (i + 1))
byte_more bits first count i byte b lt few within so_far is =
    let e : first + (count - (i + 1)) ≡ first + (count - 1 - i) = omega arith in
    let s : i + 1 ≡ suc i = omega arith in
    let k : sublist bits (first + (count - (i + 1))) (i + 1) ≡ b ∷ sublist bits (first + (count - i)) i =
    (λ w. sublist bits (e w) (s w)) ∙ cut_more bits (first + (count - 1 - i)) (first + (count - i)) i b is (omega arith) (omega arith) in
    sym (ap byte_value k ∙ number_more b (sublist bits (first + (count - i)) i) ∙ ap (λ (n : ℕ). 2 * n + from_bool b) (sym so_far))

pub byte_small : (bits : List Bool) (p i k byte : ℕ) → i ≤ k → byte ≡ byte_value (sublist bits p i) → byte < 2 ^ k
byte_small bits p i k byte le is =
    let long : length (sublist bits p i) ≤ k = omega (arith, length-take i (drop p bits)) in
    let pow : 2 ^ length (sublist bits p i) ≤ 2 ^ k = pow-le-pow_right (omega arith) long in
    omega (arith, number_small (sublist bits p i), pow, is)

pub byte_done : (bits : List Bool) (first count i byte : ℕ) → count ≤ i → i ≤ count → count ≡ min (length bits - first) 8 → byte ≡ byte_value (sublist bits (first + (count - i)) i) → byte ≡ byte_value (sublist bits first 8)
byte_done bits first count i byte le ge is so_far =
    let same : i ≡ min 8 (length (drop first bits)) = omega (arith, is, length-drop first bits) in
    let at : first + (count - i) ≡ first = omega arith in
    so_far ∙ (λ w. byte_value (sublist bits (at w) (same w))) ∙ ap byte_value (take_min 8 (drop first bits))

pub packed_more : (old out new : List ℕ) (bits : List Bool) (j byte : ℕ) → out ≡ old ++ map (byte_from bits) (range_with_len 0 j) → byte ≡ byte_from bits j → new ≡ out ++ byte ∷ [] → new ≡ old ++ map (byte_from bits) (range_with_len 0 (j + 1))
packed_more old out new bits j byte so_far is e =
    e ∙ (λ w. so_far w ++ is w ∷ []) ∙ append_assoc old (map (byte_from bits) (range_with_len 0 j)) (byte_from bits j ∷ []) ∙ ap (λ (x : List ℕ). old ++ x) (sym (map-range_with_len_more (byte_from bits) 0 j j (omega arith)))

pub packed_done : (old out : List ℕ) (bits : List Bool) (j : ℕ) → j ≡ div_ceil (length bits) 8 → out ≡ old ++ map (byte_from bits) (range_with_len 0 j) → out ≡ old ++ bitmap_bytes bits
unfolding bitmap_bytes
packed_done old out bits j e so_far = so_far ∙ ap (λ (n : ℕ). old ++ map (byte_from bits) (range_with_len 0 n)) e
