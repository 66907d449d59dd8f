-- Packed strings are read back, and are the parts of an array.
use Rattle.std.proofs.Common.{◌≡◌, ℕ, zero, suc, ◌+◌, ◌-◌, ◌<◌, ◌≤◌, List, [], ◌∷◌, ◌++◌, length, get_or, take, drop, map, refl, ap, sym, ◌∙◌, append_assoc, arith}
use Rattle.std.specs.List.{concat}
use Rattle.std.proofs.lemmas.List.{append-nil, length-append, length-map, take_at, drop_at}
use Rattle.nest_memory.specs.Rising.{last_of, last_of-cons, ends_from, IsNondecreasing}
use Rattle.nest_memory.specs.Sublist.{sublist}
use Rattle.nest_model.specs.Array.{AreOffsets}
use Rattle.nest_model.specs.Part.{begin, extent, count_rows}
use Rattle.ipc_arrays.specs.PackedStrings.{packed_offsets, packed_bytes}

-- ---- one more string

ends_more : (a : ℕ) (ns : List ℕ) (n : ℕ) → a ∷ ends_from a (ns ++ n ∷ []) ≡ (a ∷ ends_from a ns) ++ (last_of (a ∷ ends_from a ns) + n) ∷ []
ends_more a [] n = refl
ends_more a (x ∷ ns) n =
    ap (λ (ms : List ℕ). a ∷ ms) (ends_more (a + x) ns n)
    ∙ ap (λ (l : ℕ). (a ∷ (a + x) ∷ ends_from (a + x) ns) ++ (l + n) ∷ []) (sym (last_of-cons a (a + x) (ends_from (a + x) ns)))

lengths_more : (ss : List (List ℕ)) (s : List ℕ) → map length (ss ++ s ∷ []) ≡ map length ss ++ length s ∷ []
lengths_more [] s = refl
lengths_more (x ∷ ss) s = ap (λ (ns : List ℕ). length x ∷ ns) (lengths_more ss s)

pub offsets_more : (ss : List (List ℕ)) (s : List ℕ) → packed_offsets (ss ++ s ∷ []) ≡ packed_offsets ss ++ (last_of (packed_offsets ss) + length s) ∷ []
offsets_more ss s = ap (λ (ns : List ℕ). 0 ∷ ends_from 0 ns) (lengths_more ss s) ∙ ends_more 0 (map length ss) (length s)

pub bytes_more : (ss : List (List ℕ)) (s : List ℕ) → packed_bytes (ss ++ s ∷ []) ≡ packed_bytes ss ++ s
bytes_more [] s = append-nil s
bytes_more (x ∷ ss) s = ap (λ (t : List ℕ). x ++ t) (bytes_more ss s) ∙ sym (append_assoc x (concat ss) s)

-- ---- offsets

ends_long : (a : ℕ) (ns : List ℕ) → length (ends_from a ns) ≡ length ns
ends_long a [] = refl
ends_long a (n ∷ ns) = ap suc (ends_long (a + n) ns)

pub offsets_long : (ss : List (List ℕ)) → length (packed_offsets ss) ≡ length ss + 1
offsets_long ss = omega (arith, ends_long 0 (map length ss), length-map ss length)

pub rows_long : (ss : List (List ℕ)) → count_rows (packed_offsets ss) ≡ length ss
rows_long ss = omega (arith, offsets_long ss)

above : (a : ℕ) (ns : List ℕ) (i : ℕ) → i < length (a ∷ ends_from a ns) → a ≤ get_or (a ∷ ends_from a ns) i 0
above a ns zero lt = omega arith
above a [] (suc i) lt = absurd (omega arith)
above a (n ∷ ns) (suc i) lt = omega (arith, above (a + n) ns i (omega arith))

rising : (a : ℕ) (ns : List ℕ) → IsNondecreasing (a ∷ ends_from a ns)
rising a ns zero j le lt = above a ns j lt
rising a [] (suc i) j le lt = absurd (omega arith)
rising a (n ∷ ns) (suc i) zero le lt = absurd (omega arith)
rising a (n ∷ ns) (suc i) (suc j) le lt = rising (a + n) ns i j (omega arith) (omega arith)

pub packed_rise : (ss : List (List ℕ)) → AreOffsets (packed_offsets ss)
packed_rise ss = (omega arith, rising 0 (map length ss))

last_is : (a : ℕ) (ss : List (List ℕ)) → last_of (a ∷ ends_from a (map length ss)) ≡ a + length (concat ss)
last_is a [] = let e : a ≡ a + 0 = omega arith in e
last_is a (s ∷ ss) =
    last_of-cons a (a + length s) (ends_from (a + length s) (map length ss))
    ∙ last_is (a + length s) ss
    ∙ (let e : a + length s + length (concat ss) ≡ a + length (s ++ concat ss) = omega (arith, length-append s (concat ss)) in e)

pub packed_last : (ss : List (List ℕ)) → last_of (packed_offsets ss) ≡ length (packed_bytes ss)
packed_last ss = last_is 0 ss ∙ (let e : 0 + length (concat ss) ≡ length (concat ss) = omega arith in e)

-- ---- strings

-- the bytes of a slot
abbrev bytes_at : List ℕ → List ℕ → ℕ → List ℕ
bytes_at bs os i = sublist bs (begin os i) (extent os i)

later : (bs os : List ℕ) (a i : ℕ) → bytes_at bs (a ∷ os) (suc i) ≡ bytes_at bs os i
later bs os a i =
    let e : suc i + 1 ≡ suc (i + 1) = omega arith in
    ap (λ (k : ℕ). sublist bs (get_or os i 0) (get_or (a ∷ os) k 0 - get_or os i 0)) e

string_from : (front : List ℕ) (ss : List (List ℕ)) (i : ℕ) → i < length ss → bytes_at (front ++ concat ss) (length front ∷ ends_from (length front) (map length ss)) i ≡ get_or ss i []
string_from front [] i lt = absurd (omega arith)
string_from front (s ∷ ss) zero lt =
    let e : length front + length s - length front ≡ length s = omega arith in
    (λ w. take (e w) (drop_at front (s ++ concat ss) (length front) refl w)) ∙ take_at s (concat ss) (length s) refl
string_from front (s ∷ ss) (suc i) lt =
    later (front ++ (s ++ concat ss)) ((length front + length s) ∷ ends_from (length front + length s) (map length ss)) (length front) i
    ∙ (λ w. bytes_at (sym (append_assoc front s (concat ss)) w) (sym (length-append front s) w ∷ ends_from (sym (length-append front s) w) (map length ss)) i)
    ∙ string_from (front ++ s) ss i (omega arith)

pub string_packed : (ss : List (List ℕ)) (i : ℕ) → i < length ss → sublist (packed_bytes ss) (begin (packed_offsets ss) i) (extent (packed_offsets ss) i) ≡ get_or ss i []
string_packed ss i lt = string_from [] ss i lt
