-- Binary and UTF-8 arrays have the same values once their offsets are rebased and unused data is dropped.
use Rattle.std.proofs.Common.{◌≡◌, ℕ, zero, suc, ◌+◌, ◌-◌, ◌*◌, ◌<◌, ◌≤◌, Bool, true, false, eqb, List, [], ◌∷◌, length, get_or, take, drop, map, Ok, refl, sym, ap, subst, ◌∙◌, arith}
use Rattle.std.specs.Prelude.{ℤ, pos, ◌&&◌, nat_le}
use Rattle.std.specs.List.{AllByRecursion, list_all, range_with_len}
use Rattle.std.specs.Str.{IsUtf8, is_utf8}
use Rattle.std.proofs.lemmas.Bool.{le-leb}
use Rattle.std.proofs.lemmas.List.{length-map}
use Rattle.std.proofs.lemmas.Str.{IsUtf8-from_is_utf8, is_utf8-from_IsUtf8}
use Rattle.nest_memory.specs.Sublist.{sublist}
use Rattle.nest_memory.specs.Native.{unsigned}
use Rattle.nest_memory.specs.Rising.{are_offsets, rises_from, last_of, to_nat, IsNondecreasing}
use Rattle.nest_model.specs.Array.{AreOffsets}
use Rattle.nest_model.specs.Fits.{EachUtf8, covered}
use Rattle.nest_model.specs.Part.{begin, extent, count_rows}
use Rattle.nest_model.specs.Runs.{cut-cut, length-cut}
use Rattle.ipc_arrays.specs.Decoding.{decoded_values, checked_offsets, decoded_offsets, are_utf8}
use Rattle.ipc_arrays.specs.FixedWidth.{ByteFormat, offset_format, only}
use Rattle.ipc_arrays.specs.FixedWidthLaws.{ValueRoundTrips, IsSized, offset_sized, values_long, natives_again}
use Rattle.ipc_arrays.specs.Encoding.{rebased, offset_bytes}

-- ---- bounds of values

mapped_at : (f : ℕ → ℕ) (xs : List ℕ) (i : ℕ) → i < length xs → get_or (map f xs) i 0 ≡ f (get_or xs i 0)
mapped_at f [] i lt = absurd (omega arith)
mapped_at f (x ∷ xs) zero lt = refl
mapped_at f (x ∷ xs) (suc i) lt = mapped_at f xs i (omega arith)

pub rebased_at : (os : List ℕ) (i : ℕ) → i < length os → get_or (rebased os) i 0 ≡ get_or os i 0 - begin os 0
rebased_at os i lt = mapped_at (λ n. n - begin os 0) os i lt

pub rebased_long : (os : List ℕ) → length (rebased os) ≡ length os
rebased_long os = length-map os (λ n. n - begin os 0)

pub rows_again : (os : List ℕ) → count_rows (rebased os) ≡ count_rows os
rows_again os = ap (λ n. n - 1) (rebased_long os)

-- each value has the same bytes
pub string_again : (os bs : List ℕ) (i : ℕ) → AreOffsets os → i < count_rows os → sublist bs (begin os i) (extent os i) ≡ sublist (covered os bs) (begin (rebased os) i) (extent (rebased os) i)
string_again os bs i h lt =
    let a = h.1 0 i (omega arith) (omega arith) in
    let b = h.1 i (i + 1) (omega arith) (omega arith) in
    let l = h.1 (i + 1) (length os - 1) (omega arith) (omega arith) in
    let here : begin (rebased os) i ≡ begin os i - begin os 0 = rebased_at os i (omega arith) in
    let next : get_or (rebased os) (i + 1) 0 ≡ get_or os (i + 1) 0 - begin os 0 = rebased_at os (i + 1) (omega arith) in
    let long : extent (rebased os) i ≡ extent os i = omega arith in
    let at : begin os 0 + (begin os i - begin os 0) ≡ begin os i = omega arith in
    sym
    ((λ w. take (long w) (drop (here w) (covered os bs)))
    ∙ cut-cut bs (begin os 0) (last_of os - begin os 0) (begin os i - begin os 0) (extent os i) (omega arith)
    ∙ ap (λ o. sublist bs o (extent os i)) at)

-- the last offset is the length of the data
pub last_covered : (os bs : List ℕ) → AreOffsets os → last_of os ≤ length bs → last_of (rebased os) ≡ length (covered os bs)
last_covered os bs h within =
    let a = h.1 0 (length os - 1) (omega arith) (omega (arith, h.0)) in
    let at : length os - 1 < length os = omega (arith, h.0) in
    ap (λ n. get_or (rebased os) (n - 1) 0) (rebased_long os)
    ∙ rebased_at os (length os - 1) at
    ∙ sym (length-cut bs (begin os 0) (last_of os - begin os 0) (omega arith))

-- ---- offsets

numbers_again : (ns : List ℕ) → map only (map unsigned ns) ≡ map pos ns
numbers_again [] = refl
numbers_again (n ∷ ns) = ap (λ (zs : List ℤ). pos n ∷ zs) (numbers_again ns)

offsets_back : (ns : List ℕ) → map to_nat (map pos ns) ≡ ns
offsets_back [] = refl
offsets_back (n ∷ ns) = ap (λ (zs : List ℕ). n ∷ zs) (offsets_back ns)

rises : (low : ℕ) (ns : List ℕ) → ((i : ℕ) → i < length ns → low ≤ get_or ns i 0) → IsNondecreasing ns → rises_from low (map pos ns) ≡ true
rises low [] above never = refl
rises low (n ∷ ns) above never =
    let first : nat_le low n ≡ true = le-leb _ _ (above 0 (omega arith)) in
    rw first (rises n ns (λ i lt. never 0 (suc i) (omega arith) (omega arith)) (λ i j le lt. never (suc i) (suc j) (omega arith) (omega arith)))

are_rising : (ns : List ℕ) → 0 < length ns → IsNondecreasing ns → are_offsets (map pos ns) ≡ true
unfolding are_offsets
are_rising [] some never = absurd (omega arith)
are_rising (n ∷ ns) some never = rises 0 (n ∷ ns) (λ i lt. omega arith) never

rebased_rise : (os : List ℕ) → IsNondecreasing os → IsNondecreasing (rebased os)
rebased_rise os never i j le lt =
    let short : j < length os = omega (arith, rebased_long os) in
    omega (arith, rebased_at os i (omega arith), rebased_at os j short, never i j le short)

-- without slots there is one offset
alone : (os : List ℕ) → 0 < length os → count_rows os ≡ 0 → rebased os ≡ 0 ∷ []
alone [] some none = absurd (omega arith)
alone (x ∷ []) some none = let e : x - x ≡ 0 = omega arith in ap (λ (n : ℕ). n ∷ []) e
alone (x ∷ y ∷ os) some none = absurd (omega (arith, none))

not_none : (n : ℕ) → 0 < n → eqb n 0 ≡ false
not_none n some = grind arith

pub offsets_again : (large : Bool) (os : List ℕ) → AreOffsets os → AllByRecursion (ValueRoundTrips (offset_format large)) (map unsigned (rebased os)) → decoded_offsets large (count_rows os) (offset_bytes large (rebased os)) ≡ Ok (rebased os)
unfolding decoded_offsets checked_offsets
offsets_again large os are round_trips = by (count_rows os) refl
  where
    by : (n : ℕ) → count_rows os ≡ n → decoded_offsets large (count_rows os) (offset_bytes large (rebased os)) ≡ Ok (rebased os)
    by zero e = ap (λ (n : ℕ). decoded_offsets large n (offset_bytes large (rebased os))) e ∙ ap (λ (ns : List ℕ). Ok ns) (sym (alone os are.0 e))
    by (suc n) e =
        let format : ByteFormat = offset_format large in
        let values : List (List ℤ) = map unsigned (rebased os) in
        let bytes : List ℕ = offset_bytes large (rebased os) in
        let sized : IsSized format = offset_sized large in
        let count : length values ≡ count_rows os + 1 = omega (arith, length-map (rebased os) unsigned, rebased_long os, are.0) in
        let read : decoded_values format (count_rows os + 1) bytes ≡ Ok values = subst (λ (n : ℕ). decoded_values format n bytes ≡ Ok values) count (natives_again format values sized round_trips) in
        let rising : are_offsets (map pos (rebased os)) ≡ true = are_rising (rebased os) (omega (arith, rebased_long os, are.0)) (rebased_rise os are.1) in
        rw (not_none (count_rows os) (omega (arith, e)), read, numbers_again (rebased os), rising, offsets_back (rebased os)) refl

-- ---- UTF-8

all_hold : (p : ℕ → Bool) (o n : ℕ) → ((i : ℕ) → i < n → p (o + i) ≡ true) → list_all p (range_with_len o n) ≡ true
all_hold p o zero each = refl
all_hold p o (suc n) each =
    let first : p o ≡ true = ap p (let e : o ≡ o + 0 = omega arith in e) ∙ each 0 (omega arith) in
    rw first (all_hold p (o + 1) n (λ i lt. ap p (let e : o + 1 + i ≡ o + (i + 1) = omega arith in e) ∙ each (i + 1) (omega arith)))

each_holds : (p : ℕ → Bool) (o n : ℕ) → list_all p (range_with_len o n) ≡ true → (i : ℕ) → i < n → p (o + i) ≡ true
each_holds p o zero all i lt = absurd (omega arith)
each_holds p o (suc n) all zero lt = ap p (let e : o + 0 ≡ o = omega arith in e) ∙ one (p o) (list_all p (range_with_len (o + 1) n)) all
  where
    one : (a b : Bool) → (a && b) ≡ true → a ≡ true
    one true b h = refl
    one false b h = h
each_holds p o (suc n) all (suc i) lt = ap p (let e : o + suc i ≡ o + 1 + i = omega arith in e) ∙ each_holds p (o + 1) n (other (p o) (list_all p (range_with_len (o + 1) n)) all) i (omega arith)
  where
    other : (a b : Bool) → (a && b) ≡ true → b ≡ true
    other true b h = h
    other false b h = cc

pub texts_hold : (os bs : List ℕ) → EachUtf8 os bs → are_utf8 os bs ≡ true
unfolding are_utf8
texts_hold os bs each = all_hold (λ i. is_utf8 (sublist bs (begin os i) (extent os i))) 0 (count_rows os) (λ i lt. is_utf8-from_IsUtf8 _ (subst (λ (j : ℕ). IsUtf8 (sublist bs (begin os j) (extent os j))) (let e : i ≡ 0 + i = omega arith in e) (each i lt)))

pub are_texts : (os bs : List ℕ) → are_utf8 os bs ≡ true → EachUtf8 os bs
unfolding are_utf8
are_texts os bs e i lt =
    IsUtf8-from_is_utf8 _ (subst (λ (j : ℕ). is_utf8 (sublist bs (begin os j) (extent os j)) ≡ true) (let e : 0 + i ≡ i = omega arith in e) (each_holds (λ i. is_utf8 (sublist bs (begin os i) (extent os i))) 0 (count_rows os) e i lt))

pub texts_fail : (os bs : List ℕ) → (EachUtf8 os bs → ⊥) → are_utf8 os bs ≡ false
unfolding are_utf8
texts_fail os bs none = by (are_utf8 os bs) refl
  where
    by : (b : Bool) → are_utf8 os bs ≡ b → are_utf8 os bs ≡ false
    by false e = e
    by true e = absurd (none (are_texts os bs e))

-- each value is still UTF-8
pub texts_again : (os bs : List ℕ) → AreOffsets os → EachUtf8 os bs → are_utf8 (rebased os) (covered os bs) ≡ true
texts_again os bs are each = texts_hold (rebased os) (covered os bs) (λ i lt. let le : i < count_rows os = omega (arith, rows_again os) in subst IsUtf8 (string_again os bs i are le) (each i le))
