-- The strings of neighbouring slots as parts of one string.
use Rattle.std.specs.Prelude.{◌↔◌, Bool, false, IsTrue, List, length, get_or, slice_get, slice_range, Some, ◌≤◌, ◌<◌, ◌-◌, ◌+◌, take, drop}
use Rattle.std.specs.Str.{IsUtf8, IsCharBoundary}
use Rattle.std.proofs.Common.{◌≡◌, ◌∙◌, ℕ, ap, sym, subst, refl, arith}
use Rattle.std.proofs.lemmas.Option.{slice_get-get_or, slice_get_within}
use Rattle.std.proofs.lemmas.Str.{IsCharBoundary-start}
use Rattle.nest_memory.specs.Sublist.{sublist}
use Rattle.nest_memory.specs.Rising.{last_of}
use Rattle.nest_memory.specs.TypeTree.{TypeTree}
use Rattle.nest_model.specs.Array.{AreOffsets, TopFits}
use Rattle.nest_model.specs.FactLaws.{text-facts}
use Rattle.nest_model.specs.Fits.{EachUtf8, ValidUtf8, covered}
use Rattle.nest_model.specs.Layout.{utf8}
use Rattle.nest_model.specs.Part.{Validity, begin, count_rows, sliced_validity, extent}
use Rattle.nest_model.specs.Runs.{cut-cut, get_or-cut, length-cut}
use Rattle.nest_model.specs.TextLaws.{text-whole}
use Rattle.nest_flat.specs.Texts.{AreEdges, bytes_between}
use Rattle.nest_flat.proofs.TextParts.{text-cut}

pub offset-at : (os : List ℕ) (i n : ℕ) → slice_get os i ≡ Some n → get_or os i 0 ≡ n
offset-at os i n e =
    let g = slice_get-get_or os i 0 (slice_get_within os i n e) in
    cc

pub distance : (os : List ℕ) (i first end : ℕ) → slice_get os 0 ≡ Some first → slice_get os i ≡ Some end → end - first ≡ get_or os i 0 - begin os 0
distance os i first end e f =
    let a = offset-at os 0 first e in
    let b = offset-at os i end f in
    cc

pub first-edge : (os whole : List ℕ) (k : ℕ) → k < 1 → IsUtf8 whole → IsCharBoundary whole (get_or os k 0 - begin os 0)
first-edge os whole k h u =
    let z : 0 ≡ k = omega arith in
    let e : 0 ≡ get_or os 0 0 - begin os 0 = omega arith in
    subst (λ j. IsCharBoundary whole (get_or os j 0 - begin os 0)) z (subst (λ n. IsCharBoundary whole n) e (IsCharBoundary-start whole u))

pub texts-by-edges : (os bs whole : List ℕ) (b : Bool) → AreOffsets os → last_of os ≤ length bs → whole ≡ covered os bs → IsUtf8 (covered os bs) → (IsTrue b ↔ AreEdges os whole) → IsTrue b ↔ EachUtf8 os bs
texts-by-edges os bs whole b o l e u h =
    let w = text-whole os bs o l in
    (λ t. w.1 (u, subst (AreEdges os) e (h.0 t)), λ t. h.1 (subst (AreEdges os) (sym e) (w.0 t).1))

pub no-texts : (os bs : List ℕ) (b : Bool) → AreOffsets os → last_of os ≤ length bs → ¬ (IsUtf8 (covered os bs)) → b ≡ false → IsTrue b ↔ EachUtf8 os bs
no-texts os bs b o l n f = (λ t. cc, λ t. absurd (n ((text-whole os bs o l).0 t).0))

-- ---- the string of neighbouring slots

-- the offsets of slots first..end
abbrev offsets_between : List ℕ → ℕ → ℕ → List ℕ
offsets_between os first end = sublist os first (end - first + 1)

module _ (l : Bool) (t : TypeTree) (os bs : List ℕ) (va : Validity) (first end : ℕ) (fits : TopFits (utf8 l t os bs va)) (some : first ≤ end) (within : end ≤ count_rows os) where
  -- they are offsets of a UTF-8 array
  between-fits : TopFits (utf8 l t (offsets_between os first end) bs (sliced_validity va first (end - first)))
  between-fits = text-cut l t os (offsets_between os first end) bs va (sliced_validity va first (end - first)) first (end - first) refl refl fits (omega arith)

  between-whole : ValidUtf8 (offsets_between os first end) bs
  between-whole =
      let f = text-facts l t (offsets_between os first end) bs (sliced_validity va first (end - first)) between-fits in
      (text-whole (offsets_between os first end) bs f.rising f.within).0 f.texts

  pub between-text : IsUtf8 (bytes_between os bs first end)
  between-text = between-whole.0

  -- an offset from its index among all
  pub between-at : (i : ℕ) → first ≤ i → i ≤ end → get_or (offsets_between os first end) (i - first) 0 ≡ get_or os i 0
  between-at i a b =
      let e : first + (i - first) ≡ i = omega arith in
      get_or-cut os first (end - first + 1) (i - first) 0 (omega arith) ∙ ap (λ k. get_or os k 0) e

  between-begin : begin (offsets_between os first end) 0 ≡ get_or os first 0
  between-begin =
      let z : first - first ≡ 0 = omega arith in
      ap (λ k. get_or (offsets_between os first end) k 0) (sym z) ∙ between-at first (omega arith) some

  between-last : last_of (offsets_between os first end) ≡ get_or os end 0
  between-last =
      let f = fits.0 in
      let n : length (offsets_between os first end) ≡ end - first + 1 = length-cut os first (end - first + 1) (omega arith) in
      let z : length (offsets_between os first end) - 1 ≡ end - first = omega arith in
      ap (λ k. get_or (offsets_between os first end) k 0) z ∙ between-at end some (omega arith)

  -- the first and the last of them
  pub between-bytes : bytes_between os bs first end ≡ sublist bs (get_or os first 0) (get_or os end 0 - get_or os first 0)
  between-bytes = λ i. sublist bs (between-begin i) (between-last i - between-begin i)

  pub between-edge : (i : ℕ) → first ≤ i → i ≤ end → IsCharBoundary (bytes_between os bs first end) (get_or os i 0 - get_or os first 0)
  between-edge i a b =
      let n : length (offsets_between os first end) ≡ end - first + 1 = length-cut os first (end - first + 1) (let f = fits.0 in omega arith) in
      let p = between-at i a b in
      let q = between-begin in
      let e : get_or (offsets_between os first end) (i - first) 0 - begin (offsets_between os first end) 0 ≡ get_or os i 0 - get_or os first 0 = λ j. p j - q j in
      subst (λ k. IsCharBoundary (bytes_between os bs first end) k) e (between-whole.1 (i - first) (omega arith))

  -- the string of a slot is a part of it
  pub between-slot : (i : ℕ) → first ≤ i → i < end → slice_range (bytes_between os bs first end) (get_or os i 0 - get_or os first 0) (get_or os (i + 1) 0 - get_or os first 0) ≡ sublist bs (begin os i) (extent os i)
  between-slot i a b =
      let o = (text-facts l t os bs va fits).rising in
      let x = o.1 first i a (omega arith) in
      let y = o.1 i (i + 1) (omega arith) (omega arith) in
      let z = o.1 (i + 1) end (omega arith) (omega arith) in
      let n : get_or os (i + 1) 0 - get_or os first 0 - (get_or os i 0 - get_or os first 0) ≡ extent os i = omega arith in
      let s : get_or os first 0 + (get_or os i 0 - get_or os first 0) ≡ begin os i = omega arith in
      ap (λ w. slice_range w (get_or os i 0 - get_or os first 0) (get_or os (i + 1) 0 - get_or os first 0)) between-bytes
      ∙ ap (λ k. take k (drop (get_or os i 0 - get_or os first 0) (sublist bs (get_or os first 0) (get_or os end 0 - get_or os first 0)))) n
      ∙ cut-cut bs (get_or os first 0) (get_or os end 0 - get_or os first 0) (get_or os i 0 - get_or os first 0) (extent os i) (omega arith)
      ∙ ap (λ k. sublist bs k (extent os i)) s
