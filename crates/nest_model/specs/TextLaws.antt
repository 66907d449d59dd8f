-- The strings of a UTF-8 array by its covered bytes. Each slot is UTF-8 if and only if the bytes from the first offset
-- to the last are UTF-8 and each offset is a character boundary.
use Rattle.std.specs.Prelude.{◌↔◌, List, ◌++◌, length, get_or, take, drop}
use Rattle.std.specs.Str.{IsUtf8}
use Rattle.std.proofs.Common.{◌≡◌, ℕ, zero, suc, ◌+◌, ◌-◌, ◌<◌, ◌≤◌, ap, sym, ◌∙◌, subst, arith}
use Rattle.std.proofs.lemmas.Str.{IsUtf8-nil, IsUtf8-append, IsUtf8-between, IsCharBoundary-from_drop}
use Rattle.std.proofs.Math.Seq.{take-add}
use Rattle.std.proofs.lemmas.List.{drop-take, drop-drop}
use Rattle.nest_memory.specs.Sublist.{sublist}
use Rattle.nest_memory.specs.Rising.{last_of}
use Rattle.nest_model.specs.Part.{begin, extent, count_rows}
use Rattle.nest_model.specs.Fits.{EachUtf8, ValidUtf8, covered}
use Rattle.nest_model.specs.Array.{AreOffsets}
use Rattle.nest_model.specs.Runs.{cut-cut, length-cut}

-- The bytes of a slot are a sublist of the covered bytes.
slot-covered : (os bs : List ℕ) (i : ℕ) → AreOffsets os → i < count_rows os
    → take (get_or os (i + 1) 0 - begin os 0 - (get_or os i 0 - begin os 0)) (drop (get_or os i 0 - begin os 0) (covered os bs)) ≡ sublist bs (begin os i) (extent os i)
slot-covered os bs i h k =
    let a = h.1 0 i (omega arith) (omega arith) in
    let b = h.1 i (i + 1) (omega arith) (omega arith) in
    let l = h.1 (i + 1) (length os - 1) (omega arith) (omega arith) in
    let e : get_or os (i + 1) 0 - begin os 0 - (get_or os i 0 - begin os 0) ≡ extent os i = omega arith in
    let p : begin os 0 + (get_or os i 0 - begin os 0) ≡ begin os i = omega arith in
    ap (λ n. take n (drop (get_or os i 0 - begin os 0) (covered os bs))) e
    ∙ cut-cut bs (begin os 0) (last_of os - begin os 0) (get_or os i 0 - begin os 0) (extent os i) (omega arith)
    ∙ ap (λ o. sublist bs o (extent os i)) p

pub whole-each : (os bs : List ℕ) → AreOffsets os → ValidUtf8 os bs → EachUtf8 os bs
whole-each os bs h w i k =
    let b = h.1 i (i + 1) (omega arith) (omega arith) in
    let m : get_or os i 0 - begin os 0 ≤ get_or os (i + 1) 0 - begin os 0 = omega arith in
    let j : i < length os = omega arith in
    let l : i + 1 < length os = omega arith in
    subst IsUtf8 (slot-covered os bs i h k) (IsUtf8-between (covered os bs) (get_or os i 0 - begin os 0) (get_or os (i + 1) 0 - begin os 0) w.0 m (w.1 i j) (w.1 (i + 1) l))

-- The bytes from offset i to the last offset.
after : List ℕ → List ℕ → ℕ → List ℕ
after os bs i = sublist bs (get_or os i 0) (last_of os - get_or os i 0)

cut-joined : (bs : List ℕ) (o n m : ℕ) → sublist bs o (n + m) ≡ sublist bs o n ++ sublist bs (o + n) m
cut-joined bs o n m = take-add n m (drop o bs) ∙ ap (λ r. take n (drop o bs) ++ take m r) (drop-drop n o bs)

after-joined : (os bs : List ℕ) (i : ℕ) → AreOffsets os → i < count_rows os → sublist bs (begin os i) (extent os i) ++ after os bs (i + 1) ≡ after os bs i
unfolding after
after-joined os bs i h k =
    let a = h.1 i (i + 1) (omega arith) (omega arith) in
    let b = h.1 (i + 1) (length os - 1) (omega arith) (omega arith) in
    let p : begin os i + extent os i ≡ get_or os (i + 1) 0 = omega arith in
    let q : extent os i + (last_of os - get_or os (i + 1) 0) ≡ last_of os - get_or os i 0 = omega arith in
    ap (λ o. sublist bs (begin os i) (extent os i) ++ sublist bs o (last_of os - get_or os (i + 1) 0)) (sym p)
    ∙ sym (cut-joined bs (begin os i) (extent os i) (last_of os - get_or os (i + 1) 0))
    ∙ ap (sublist bs (begin os i)) q

text-after : (os bs : List ℕ) (n i : ℕ) → AreOffsets os → EachUtf8 os bs → i + n + 1 ≡ length os → IsUtf8 (after os bs i)
unfolding after
text-after os bs zero i h t e =
    let p : i ≡ length os - 1 = omega arith in
    let q = ap (λ j. get_or os j 0) p in
    let z : 0 ≡ last_of os - get_or os i 0 = omega arith in
    subst (λ n. IsUtf8 (take n (drop (get_or os i 0) bs))) z IsUtf8-nil
text-after os bs (suc n) i h t e =
    let k : i < count_rows os = omega arith in
    subst IsUtf8 (after-joined os bs i h k) (IsUtf8-append (sublist bs (begin os i) (extent os i)) (after os bs (i + 1)) (t i k) (text-after os bs n (i + 1) h t (omega arith)))

after-covered : (os bs : List ℕ) (i : ℕ) → AreOffsets os → i < length os → after os bs i ≡ drop (get_or os i 0 - begin os 0) (covered os bs)
unfolding after
after-covered os bs i h k =
    let a = h.1 0 i (omega arith) k in
    let b = h.1 i (length os - 1) (omega arith) (omega arith) in
    let p : begin os 0 + (get_or os i 0 - begin os 0) ≡ get_or os i 0 = omega arith in
    let q : last_of os - begin os 0 ≡ (get_or os i 0 - begin os 0) + (last_of os - get_or os i 0) = omega arith in
    sym (ap (λ n. drop (get_or os i 0 - begin os 0) (take n (drop (begin os 0) bs))) q
    ∙ drop-take (get_or os i 0 - begin os 0) (last_of os - get_or os i 0) (drop (begin os 0) bs)
    ∙ ap (take (last_of os - get_or os i 0)) (drop-drop (get_or os i 0 - begin os 0) (begin os 0) bs)
    ∙ ap (λ o. sublist bs o (last_of os - get_or os i 0)) p)

pub each-whole : (os bs : List ℕ) → AreOffsets os → last_of os ≤ length bs → EachUtf8 os bs → ValidUtf8 os bs
unfolding after
each-whole os bs h l t =
    let m = h.1 0 (length os - 1) (omega arith) (let z = h.0 in omega arith) in
    let e = length-cut bs (begin os 0) (last_of os - begin os 0) (omega arith) in
    let z = h.0 in (
      text-after os bs (length os - 1) 0 h t (omega arith),
      λ i k.
          let a = h.1 0 i (omega arith) k in
          let b = h.1 i (length os - 1) (omega arith) (omega arith) in
          IsCharBoundary-from_drop (covered os bs) (get_or os i 0 - begin os 0) (omega arith)
          (subst IsUtf8 (after-covered os bs i h k) (text-after os bs (length os - 1 - i) i h t (omega arith))),
    )

-- Both directions.
pub text-whole : (os bs : List ℕ) → AreOffsets os → last_of os ≤ length bs → EachUtf8 os bs ↔ ValidUtf8 os bs
text-whole os bs h l = (each-whole os bs h l, whole-each os bs h)
