-- Bitmaps round-trip.
use Rattle.std.proofs.Common.{leb, Ok, refl, ◌≡◌, ℕ, zero, suc, ◌+◌, ◌*◌, ◌/◌, ◌%◌, ◌<◌, ◌≤◌, Bool, true, false, nat_eq, List, [], ◌∷◌, ◌++◌, length, take, drop, map, get_or, sym, ap, ◌∙◌, arith}
use Rattle.std.specs.Int.{bit_at, div_ceil}
use Rattle.std.specs.List.{range_with_len}
use Rattle.std.proofs.lemmas.Nat.Bits.{bit_at_lowest, bit_at-suc, bit_at-zero}
use Rattle.std.proofs.lemmas.List.{get_or-take, get_or-drop, get_or_append_left, ext_get_or}
use Rattle.std.proofs.lemmas.List.FromFn.{get_or-map-range_with_len, length-map-range_with_len}
use Rattle.nest_memory.specs.Bits.{bit, bits_from}
use Rattle.nest_memory.specs.Sublist.{sublist}
use Rattle.std.proofs.lemmas.Bool.{le-leb}
use Rattle.ipc_arrays.specs.Decoding.{decoded_bits}
use Rattle.ipc_arrays.specs.Bitmaps.{byte_value, byte_from, bitmap_bytes}

number_bit : (bits : List Bool) (k : ℕ) → nat_eq (bit_at (byte_value bits) k) 1 ≡ get_or bits k false
unfolding byte_value
number_bit [] k = ap (λ x. nat_eq x 1) (bit_at-zero k)
number_bit (true ∷ bits) zero = let e : bit_at (1 + 2 * byte_value bits) 0 ≡ 1 = bit_at_lowest (1 + 2 * byte_value bits) ∙ omega arith in ap (λ x. nat_eq x 1) e
number_bit (false ∷ bits) zero = let e : bit_at (0 + 2 * byte_value bits) 0 ≡ 0 = bit_at_lowest (0 + 2 * byte_value bits) ∙ omega arith in ap (λ x. nat_eq x 1) e
number_bit (true ∷ bits) (suc k) =
    let e : (1 + 2 * byte_value bits) / 2 ≡ byte_value bits = omega arith in
    ap (λ x. nat_eq x 1) (bit_at-suc (1 + 2 * byte_value bits) k ∙ ap (λ x. bit_at x k) e) ∙ number_bit bits k
number_bit (false ∷ bits) (suc k) =
    let e : (0 + 2 * byte_value bits) / 2 ≡ byte_value bits = omega arith in
    ap (λ x. nat_eq x 1) (bit_at-suc (0 + 2 * byte_value bits) k ∙ ap (λ x. bit_at x k) e) ∙ number_bit bits k

pub packed_long : (bits : List Bool) → length (bitmap_bytes bits) ≡ div_ceil (length bits) 8
unfolding bitmap_bytes
packed_long bits = length-map-range_with_len (byte_from bits) 0 (div_ceil (length bits) 8)

packed_bit : (bits : List Bool) (after : List ℕ) (k : ℕ) → k < length bits → bit (bitmap_bytes bits ++ after) k ≡ get_or bits k false
unfolding bit bitmap_bytes
packed_bit bits after k h =
    let n : ℕ = div_ceil (length bits) 8 in
    let l : length (bitmap_bytes bits) ≡ n = packed_long bits in
    let within : k / 8 < n = omega arith in
    let one : get_or (bitmap_bytes bits ++ after) (k / 8) 0 ≡ byte_from bits (k / 8) = get_or_append_left (bitmap_bytes bits) after 0 (k / 8) (omega arith) ∙ get_or-map-range_with_len (byte_from bits) 0 n (k / 8) (k / 8) 0 within (omega arith) in
    let at : 8 * (k / 8) + k % 8 ≡ k = omega arith in
    ap (λ x. nat_eq (bit_at x (k % 8)) 1) one
    ∙ number_bit (sublist bits (8 * (k / 8)) 8) (k % 8)
    ∙ get_or-take 8 (drop (8 * (k / 8)) bits) (k % 8) false (omega arith)
    ∙ get_or-drop (8 * (k / 8)) bits (k % 8) false
    ∙ ap (λ j. get_or bits j false) at

pub packed_again : (bits : List Bool) (after : List ℕ) → bits_from (bitmap_bytes bits ++ after) 0 (length bits) ≡ bits
unfolding bits_from
packed_again bits after =
    let bytes : List ℕ = bitmap_bytes bits ++ after in
    let l : length (map (bit bytes) (range_with_len 0 (length bits))) ≡ length bits = length-map-range_with_len (bit bytes) 0 (length bits) in
    ext_get_or false (map (bit bytes) (range_with_len 0 (length bits))) bits l
    (λ i h. get_or-map-range_with_len (bit bytes) 0 (length bits) i i false (omega arith) (omega arith) ∙ packed_bit bits after i (omega arith))

-- only the bytes that hold the bits matter
pub bits_taken : (bytes : List ℕ) (k n : ℕ) → n ≤ 8 * k → k ≤ length bytes → bits_from (take k bytes) 0 n ≡ bits_from bytes 0 n
unfolding bits_from bit
bits_taken bytes k n few within =
    let l : length (map (bit (take k bytes)) (range_with_len 0 n)) ≡ n = length-map-range_with_len (bit (take k bytes)) 0 n in
    let m : length (map (bit bytes) (range_with_len 0 n)) ≡ n = length-map-range_with_len (bit bytes) 0 n in
    ext_get_or false (map (bit (take k bytes)) (range_with_len 0 n)) (map (bit bytes) (range_with_len 0 n)) (l ∙ sym m)
    (λ i h. get_or-map-range_with_len (bit (take k bytes)) 0 n i i false (omega arith) (omega arith)
    ∙ ap (λ x. nat_eq (bit_at x (i % 8)) 1) (get_or-take k bytes (i / 8) 0 (omega arith))
    ∙ sym (get_or-map-range_with_len (bit bytes) 0 n i i false (omega arith) (omega arith)))

pub bits_copied : (bytes copy : List ℕ) (k slots : ℕ) → k ≡ div_ceil slots 8 → k ≤ length bytes → copy ≡ take k bytes → Ok (bits_from copy 0 slots) ≡ decoded_bits slots bytes
unfolding decoded_bits
bits_copied bytes copy k slots e within is =
    let enough : leb slots (8 * length bytes) ≡ true = le-leb _ _ (omega arith) in
    let same : bits_from copy 0 slots ≡ bits_from bytes 0 slots = ap (λ (x : List ℕ). bits_from x 0 slots) is ∙ bits_taken bytes k slots (omega arith) within in
    rw (enough, same) refl
