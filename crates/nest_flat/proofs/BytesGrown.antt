-- Builders of binary and UTF-8 arrays: their offsets and slots after each call.
use Rattle.std.specs.Prelude.{Result, Ok, Err, IsErrOf, IsOkUnless, OnOk, OnErr, slice_index, Option, Some, None, is_some, if◌then◌else◌, alloc_error}
use Rattle.std.specs.Str.{IsUtf8}
use Rattle.std.proofs.Common.{◌≡◌, ℕ, zero, suc, ◌+◌, ◌-◌, ◌<◌, ◌≤◌, Bool, true, false, List, [], ◌∷◌, ◌++◌, length, map, take, drop, get_or, refl, ap, sym, ◌∙◌, subst, arith}
use Rattle.std.proofs.lemmas.List.{length-append, length-map, length-drop, length-take-le, get_or-take, get_or_append_left, get_or-append-add, get_or-map, get_or-drop, drop-drop, drop-append-le, take-append-le, take_all}
use Rattle.std.proofs.Math.Seq.{drop-append_seam, take-length}
use Rattle.nest_memory.specs.Sublist.{sublist}
use Rattle.nest_memory.specs.Rising.{last_of, IsNondecreasing}
use Rattle.nest_memory.specs.TypeTree.{TypeTree}
use Rattle.nest_memory.specs.declared.error.Error.{Error}
use Rattle.nest_memory.specs.declared.error.Error.TheVariants.{Memory, Overflow}
use Rattle.nest_model.specs.Part.{Validity, valid_at, begin, extent, count_rows, sliced_validity}
use Rattle.nest_model.specs.Slot as slots
use Rattle.nest_model.specs.Slot.{Slot}
use Rattle.nest_model.specs.Layout.{Layout, binary, utf8, layout_type}
use Rattle.nest_model.specs.Accessors.{validity_of, with_validity}
use Rattle.nest_model.specs.Slice.{slice_layout}
use Rattle.nest_model.specs.Meaning.{run, len, slot, slots_of}
use Rattle.nest_model.specs.Runs.{cut-cut}
use Rattle.nest_model.specs.Reads.{extent-fits}
use Rattle.nest_model.specs.SameArrayLaws.{slots-from_places}
use Rattle.nest_model.specs.Fits.{ValidityFits, EachUtf8}
use Rattle.nest_memory.specs.Physical.{physical_type, utf8_of_width}
use Rattle.nest_model.specs.Array.{AreOffsets, TopFits}
use Rattle.nest_model.specs.SliceLaws.{slots-cut}
use Rattle.nest_flat.specs.FlatParts.{optional}
use Rattle.nest_flat.specs.Growth.{pushed_validity, joined_validity, first_slots, rolled_back, is_masked, Grew}
use Rattle.nest_flat.specs.BytesGrowth.{Spans, AreSpans, NullsAreBare, spans, item_bytes, pushed_span, joined_spans, first_spans, bare_spans, spans_of, with_spans}
use Rattle.nest_flat.proofs.Grown.{fits-joined, valid-before, valid-after, slots-joined, pushed-joined, validity-back, masked-joined}

-- the offsets of joined slots
abbrev both : List ℕ → List ℕ → List ℕ
both os ps = os ++ map (λ e. last_of os + e) (drop 1 ps)

pub rows-both : (os ps : List ℕ) → 0 < length os → count_rows (both os ps) ≡ count_rows os + count_rows ps
rows-both os ps h =
    let f = λ (e : ℕ). last_of os + e in
    omega (arith, length-append os (map f (drop 1 ps)), length-map (drop 1 ps) f, length-drop 1 ps)

begin-after : (os ps : List ℕ) (j : ℕ) → 0 < length os → begin ps 0 ≡ 0 → j < length ps → get_or (both os ps) (count_rows os + j) 0 ≡ last_of os + get_or ps j 0
begin-after os ps zero h z k =
    let f = λ (e : ℕ). last_of os + e in
    let p : count_rows os + 0 ≡ count_rows os = omega arith in
    ap (λ i. get_or (both os ps) i 0) p
    ∙ get_or_append_left os (map f (drop 1 ps)) 0 (count_rows os) (omega arith)
    ∙ (let e : last_of os ≡ last_of os + get_or ps 0 0 = omega arith in e)
begin-after os ps (suc j) h z k =
    let f = λ (e : ℕ). last_of os + e in
    let p : count_rows os + suc j ≡ length os + j = omega arith in
    let q : 1 + j ≡ suc j = omega arith in
    ap (λ i. get_or (both os ps) i 0) p
    ∙ get_or-append-add os (map f (drop 1 ps)) j 0
    ∙ get_or-map f (drop 1 ps) j 0 0 (omega (arith, length-drop 1 ps))
    ∙ ap f (get_or-drop 1 ps j 0 ∙ ap (λ i. get_or ps i 0) q)

pub last-both : (os ps : List ℕ) → 0 < length os → 0 < length ps → begin ps 0 ≡ 0 → last_of (both os ps) ≡ last_of os + last_of ps
last-both os ps h k z = ap (λ i. get_or (both os ps) i 0) (rows-both os ps h) ∙ begin-after os ps (count_rows ps) h z (omega arith)

-- a window within the first of two lists, and one within the second
cut-left : (bs cs : List ℕ) (o n : ℕ) → o + n ≤ length bs → sublist (bs ++ cs) o n ≡ sublist bs o n
cut-left bs cs o n h =
    ap (take n) (drop-append-le o bs cs (omega arith))
    ∙ take-append-le n (drop o bs) cs (omega (arith, length-drop o bs))

cut-right : (bs cs : List ℕ) (o n : ℕ) → sublist (bs ++ cs) (length bs + o) n ≡ sublist cs o n
cut-right bs cs o n = ap (take n) (sym (drop-drop o (length bs) (bs ++ cs)) ∙ ap (drop o) (drop-append_seam bs cs))

-- the byte length of each joined slot
before-extent : (os ps : List ℕ) (i : ℕ) → i < count_rows os → extent (both os ps) i ≡ extent os i
before-extent os ps i k =
    let more = map (λ (e : ℕ). last_of os + e) (drop 1 ps) in
    let a = get_or_append_left os more 0 i (omega arith) in
    let b = get_or_append_left os more 0 (i + 1) (omega arith) in
    λ j. b j - a j

after-extent : (os ps : List ℕ) (i : ℕ) → 0 < length os → begin ps 0 ≡ 0 → i < count_rows ps → extent (both os ps) (count_rows os + i) ≡ extent ps i
after-extent os ps i h z k =
    let a = begin-after os ps i h z (omega arith) in
    let p : count_rows os + (i + 1) ≡ count_rows os + i + 1 = omega arith in
    let b = ap (λ q. get_or (both os ps) q 0) (sym p) ∙ begin-after os ps (i + 1) h z (omega arith) in
    omega arith

-- the bytes of joined slots
before-bytes : (os ps bs cs : List ℕ) (i : ℕ) → AreOffsets os → last_of os ≡ length bs → i < count_rows os
    → sublist (bs ++ cs) (begin (both os ps) i) (extent (both os ps) i) ≡ sublist bs (begin os i) (extent os i)
before-bytes os ps bs cs i h l k =
    let more = map (λ (e : ℕ). last_of os + e) (drop 1 ps) in
    let a = get_or_append_left os more 0 i (omega arith) in
    let b = get_or_append_left os more 0 (i + 1) (omega arith) in
    let w = extent-fits os (length bs) i h (omega arith) k in
    (λ j. sublist (bs ++ cs) (a j) (b j - a j)) ∙ cut-left bs cs (begin os i) (extent os i) w

after-bytes : (os ps bs cs : List ℕ) (i : ℕ) → 0 < length os → last_of os ≡ length bs → begin ps 0 ≡ 0 → i < count_rows ps
    → sublist (bs ++ cs) (begin (both os ps) (count_rows os + i)) (extent (both os ps) (count_rows os + i)) ≡ sublist cs (begin ps i) (extent ps i)
after-bytes os ps bs cs i h l z k =
    let o : begin (both os ps) (count_rows os + i) ≡ length bs + begin ps i = begin-after os ps i h z (omega arith) ∙ ap (λ q. q + begin ps i) l in
    let x = after-extent os ps i h z k in
    (λ j. sublist (bs ++ cs) (o j) (x j)) ∙ cut-right bs cs (begin ps i) (extent ps i)

-- binary and UTF-8 arrays from their parts
pub record SpansKind (make : Spans → Layout) (wrap : List ℕ → Slot) : Type 0 where
  pub count : (s : Spans) → len (make s) ≡ count_rows s.offsets
  pub place : (s : Spans) (i : ℕ) → slot (make s) i ≡ (if valid_at s.validity i then wrap (sublist s.bytes (begin s.offsets i) (extent s.offsets i)) else slots.null)
  pub typed : (s r : Spans) → layout_type (make s) ≡ layout_type (make r)
  pub shown : (s : Spans) → spans_of (make s) ≡ s
  pub changed : (s r : Spans) → with_spans (make s) r ≡ make r
  pub bits : (s : Spans) → validity_of (make s) ≡ s.validity
  pub first : (s : Spans) (n : ℕ) → first_slots (make s) n ≡ make (first_spans n s)
  pub bare : (s : Spans) → with_validity (make s) None ≡ make (bare_spans s)
  pub short : (s : Spans) (n : ℕ) → slice_layout (make s) 0 n ≡ make (spans (take (n + 1) s.offsets) s.bytes (sliced_validity s.validity 0 n))

abbrev pub binary_made : Bool → TypeTree → Spans → Layout
binary_made l t s = binary l t s.offsets s.bytes s.validity

abbrev pub text_made : Bool → TypeTree → Spans → Layout
text_made l t s = utf8 l t s.offsets s.bytes s.validity

pub binary-kind : (l : Bool) (t : TypeTree) → SpansKind (binary_made l t) slots.bytes
binary-kind l t = record {
  count = λ s. refl;
  place = λ s i. refl;
  typed = λ s r. refl;
  shown = λ s. refl;
  changed = λ s r. refl;
  bits = λ s. refl;
  first = λ s n. refl;
  bare = λ s. refl;
  short = λ s n. refl;
}

pub text-kind : (l : Bool) (t : TypeTree) → SpansKind (text_made l t) slots.utf8
text-kind l t = record {
  count = λ s. refl;
  place = λ s i. refl;
  typed = λ s r. refl;
  shown = λ s. refl;
  changed = λ s r. refl;
  bits = λ s. refl;
  first = λ s n. refl;
  bare = λ s. refl;
  short = λ s n. refl;
}

-- each index of two joined ranges is in the first or in the second
places : (P : ℕ → Type 0) (n m : ℕ) → ((i : ℕ) → i < n → P i) → ((i : ℕ) → i < m → P (n + i)) → (i : ℕ) → i < n + m → P i
places P zero m f g i h = subst P (let z : zero + i ≡ i = omega arith in z) (g i (omega arith))
places P (suc n) m f g zero h = f zero (omega arith)
places P (suc n) m f g (suc i) h =
    places (λ j. P (suc j)) n m (λ j k. f (suc j) (omega arith)) (λ j k. subst P (let z : suc n + j ≡ suc (n + j) = omega arith in z) (g j k)) i (omega arith)

-- the bytes of each slot are still UTF-8
pub each-joined : (s r : Spans) → AreSpans s → AreSpans r → EachUtf8 s.offsets s.bytes → EachUtf8 r.offsets r.bytes → EachUtf8 (joined_spans s r).offsets (joined_spans s r).bytes
each-joined s r h k t u i j =
    let e = rows-both s.offsets r.offsets h.rising.0 in
    places (λ q. IsUtf8 (sublist (s.bytes ++ r.bytes) (begin (both s.offsets r.offsets) q) (extent (both s.offsets r.offsets) q))) (count_rows s.offsets) (count_rows r.offsets)
    (λ q w. subst IsUtf8 (sym (before-bytes s.offsets r.offsets s.bytes r.bytes q h.rising h.ends w)) (t q w))
    (λ q w. subst IsUtf8 (sym (after-bytes s.offsets r.offsets s.bytes r.bytes q h.rising.0 h.ends k.first w)) (u q w))
    i (omega arith)

-- every null of joined slots has no bytes
bare-joined : (s r : Spans) → AreSpans s → AreSpans r → NullsAreBare (joined_spans s r).validity (joined_spans s r).offsets
bare-joined s r h k i j v =
    let n = count_rows s.offsets in
    let m = count_rows r.offsets in
    let e = rows-both s.offsets r.offsets h.rising.0 in
    places (λ q. valid_at (joined_validity s.validity n r.validity m) q ≡ false → extent (both s.offsets r.offsets) q ≡ 0) n m
    (λ q w f. before-extent s.offsets r.offsets q w ∙ h.bare q w (sym (valid-before s.validity r.validity n m q h.fits w) ∙ f))
    (λ q w f. after-extent s.offsets r.offsets q h.rising.0 k.first w ∙ k.bare q w (sym (valid-after s.validity r.validity n m q h.fits w) ∙ f))
    i (omega arith) v

-- one slot
abbrev one : Option (List ℕ) → Spans
one item = record { offsets = 0 ∷ (length (item_bytes item) ∷ []); bytes = item_bytes item; validity = if is_some item then None else Some (false ∷ []) }

one-rising : (n : ℕ) → AreOffsets (0 ∷ (n ∷ []))
one-rising n = (omega arith, rises)
  where
    rises : (i j : ℕ) → i ≤ j → j < length (0 ∷ (n ∷ [])) → get_or (0 ∷ (n ∷ [])) i 0 ≤ get_or (0 ∷ (n ∷ [])) j 0
    rises zero j a b = omega arith
    rises (suc zero) zero a b = absurd (omega arith)
    rises (suc zero) (suc zero) a b = omega arith
    rises (suc zero) (suc (suc j)) a b = absurd (omega arith)
    rises (suc (suc i)) j a b = absurd (omega arith)

one-spans : (item : Option (List ℕ)) → AreSpans (one item)
one-spans None = record { rising = one-rising 0; first = refl; ends = refl; fits = refl; bare = no_bytes }
  where
    no_bytes : NullsAreBare (Some (false ∷ [])) (0 ∷ (0 ∷ []))
    no_bytes zero j v = refl
    no_bytes (suc i) j v = absurd (omega arith)
one-spans (Some xs) = record { rising = one-rising (length xs); first = refl; ends = refl; fits = tt; bare = λ i j v. absurd (all_valid v) }
  where
    all_valid : true ≡ false → ⊥
    all_valid e = cc

-- pushing a slot joins one slot
pushed-one : (s : Spans) (item : Option (List ℕ)) → pushed_span item s ≡ joined_spans s (one item)
pushed-one s item =
    let v = pushed-joined s.validity (count_rows s.offsets) (is_some item) in
    λ j. record { offsets = s.offsets ++ (last_of s.offsets + length (item_bytes item)) ∷ []; bytes = s.bytes ++ item_bytes item; validity = v j }

whole-item : (xs : List ℕ) → take (length xs - 0) xs ≡ xs
whole-item xs = ap (λ n. take n xs) (let e : length xs - 0 ≡ length xs = omega arith in e) ∙ take-length xs

pub each-pushed : (s : Spans) (item : Option (List ℕ)) → AreSpans s → IsUtf8 (item_bytes item) → EachUtf8 s.offsets s.bytes → EachUtf8 (pushed_span item s).offsets (pushed_span item s).bytes
each-pushed s item h u t =
    each-joined s (one item) h (one-spans item) t one-text
  where
    one-text : EachUtf8 (0 ∷ (length (item_bytes item) ∷ [])) (item_bytes item)
    one-text zero j = subst IsUtf8 (sym (whole-item (item_bytes item))) u
    one-text (suc i) j = absurd (omega arith)

-- the first n slots
pub rows-first : (os : List ℕ) (n : ℕ) → 0 < length os → n ≤ count_rows os → count_rows (take (n + 1) os) ≡ n
rows-first os n z h = omega (arith, length-take-le (n + 1) os (omega arith))

pub last-first : (os : List ℕ) (n : ℕ) → 0 < length os → n ≤ count_rows os → last_of (take (n + 1) os) ≡ begin os n
last-first os n z h = ap (λ k. get_or (take (n + 1) os) k 0) (rows-first os n z h) ∙ get_or-take (n + 1) os n 0 (omega arith)

first-bytes : (os bs : List ℕ) (n i : ℕ) → AreOffsets os → n ≤ count_rows os → i < n
    → sublist (take (begin os n) bs) (begin (take (n + 1) os) i) (extent (take (n + 1) os) i) ≡ sublist bs (begin (take (n + 1) os) i) (extent (take (n + 1) os) i)
first-bytes os bs n i h k j =
    let z = h.0 in
    let a = get_or-take (n + 1) os i 0 (omega arith) in
    let b = get_or-take (n + 1) os (i + 1) 0 (omega arith) in
    let m = h.1 (i + 1) n (omega arith) (omega arith) in
    let r = h.1 i (i + 1) (omega arith) (omega arith) in
    let o = begin (take (n + 1) os) i in
    let x = extent (take (n + 1) os) i in
    cut-cut bs 0 (begin os n) o x (omega arith) ∙ ap (λ p. take x (drop p bs)) (let e : 0 + o ≡ o = omega arith in e)

pub each-first : (s : Spans) (n : ℕ) → AreSpans s → n ≤ count_rows s.offsets → EachUtf8 s.offsets s.bytes → EachUtf8 (first_spans n s).offsets (first_spans n s).bytes
each-first s n h k t i j =
    let z = h.rising.0 in
    let r = rows-first s.offsets n z k in
    let m : i < n = omega arith in
    let a = get_or-take (n + 1) s.offsets i 0 (omega arith) in
    let b = get_or-take (n + 1) s.offsets (i + 1) 0 (omega arith) in
    subst IsUtf8 (sym (first-bytes s.offsets s.bytes n i h.rising k m ∙ (λ w. sublist s.bytes (a w) (b w - a w)))) (t i (omega arith))

valid-first : (va : Validity) (n i : ℕ) → i < n → valid_at (sliced_validity va 0 n) i ≡ valid_at va i
valid-first None n i h = refl
valid-first (Some bits) n i h = get_or-take n bits i true h

bare-first : (s : Spans) (n : ℕ) → AreSpans s → n ≤ count_rows s.offsets → NullsAreBare (first_spans n s).validity (first_spans n s).offsets
bare-first s n h k i j v =
    let r = rows-first s.offsets n h.rising.0 k in
    let m : i < n = omega arith in
    let a = get_or-take (n + 1) s.offsets i 0 (omega arith) in
    let b = get_or-take (n + 1) s.offsets (i + 1) 0 (omega arith) in
    let x : extent (take (n + 1) s.offsets) i ≡ extent s.offsets i = λ w. b w - a w in
    x ∙ h.bare i (omega arith) (sym (valid-first s.validity n i m) ∙ v)

-- without a validity there are no nulls
pub bare-none : (os : List ℕ) → NullsAreBare None os
bare-none os i j v = cc

-- ---- the parts after each call
abbrev pub Whole : Spans → Type 0
Whole s = (last_of s.offsets ≡ length s.bytes) × ValidityFits s.validity (count_rows s.offsets) × NullsAreBare s.validity s.offsets

pub spans-known : (os bs : List ℕ) (va : Validity) → 0 < length os → IsNondecreasing os → slice_index os 0 ≡ 0 → Whole (spans os bs va) → AreSpans (record { offsets = os; bytes = bs; validity = va })
spans-known os bs va z h f w = record { rising = (z, h); first = f; ends = w.0; fits = w.1; bare = w.2 }

pub whole-at : (s r : Spans) → s ≡ r → Whole r → Whole s
whole-at s r e w = subst (λ (q : Spans). Whole q) (sym e) w

pub joined-whole : (s r : Spans) → AreSpans s → AreSpans r → Whole (joined_spans s r)
joined-whole s r h k =
    let l = last-both s.offsets r.offsets h.rising.0 k.rising.0 k.first in
    let e = h.ends in
    let f = k.ends in (
      omega (arith, l, length-append s.bytes r.bytes),
      fits-joined s.validity r.validity (count_rows s.offsets) (count_rows r.offsets) (count_rows (joined_spans s r).offsets) h.fits k.fits (rows-both s.offsets r.offsets h.rising.0),
      bare-joined s r h k,
    )

pub pushed-whole : (s : Spans) (item : Option (List ℕ)) → AreSpans s → Whole (pushed_span item s)
pushed-whole s item h = whole-at (pushed_span item s) (joined_spans s (one item)) (pushed-one s item) (joined-whole s (one item) h (one-spans item))

pub first-whole : (s : Spans) (n : ℕ) → AreSpans s → n ≤ count_rows s.offsets → Whole (first_spans n s)
first-whole s n h k =
    let z = h.rising.0 in
    let a = h.rising.1 n (length s.offsets - 1) (omega arith) (omega arith) in
    let e = h.ends in (
      last-first s.offsets n z k ∙ sym (length-take-le (begin s.offsets n) s.bytes (omega arith)),
      subst (ValidityFits (sliced_validity s.validity 0 n)) (sym (rows-first s.offsets n z k)) (fits-first s.validity (count_rows s.offsets) n h.fits k),
      bare-first s n h k,
    )
  where
    fits-first : (va : Validity) (m n : ℕ) → ValidityFits va m → n ≤ m → ValidityFits (sliced_validity va 0 n) n
    fits-first None m n h k = tt
    fits-first (Some bits) m n h k = length-take-le n bits (omega arith)

-- the parts from the contracts of the calls
pub parts-pushed : (s : Spans) (os bs xs : List ℕ) (va : Validity) (n : ℕ) (item : Option (List ℕ)) → os ≡ s.offsets ++ (last_of s.offsets + length xs) ∷ [] → xs ≡ item_bytes item → bs ≡ s.bytes ++ item_bytes item
    → va ≡ pushed_validity s.validity n (is_some item) → n ≡ count_rows s.offsets → record { offsets = os; bytes = bs; validity = va } ≡ pushed_span item s
parts-pushed s os bs xs va n item e f g v m =
    let o = e ∙ ap (λ ys. s.offsets ++ (last_of s.offsets + length ys) ∷ []) f in
    let w = v ∙ ap (λ i. pushed_validity s.validity i (is_some item)) m in
    λ j. record { offsets = o j; bytes = g j; validity = w j }

pub parts-taken : (s : Spans) (os bs : List ℕ) (va : Validity) (n last : ℕ) (m : Bool) → AreSpans s → n ≤ count_rows s.offsets → os ≡ take (n + 1) s.offsets → last ≡ last_of os → bs ≡ take last s.bytes
    → va ≡ (if m then sliced_validity s.validity 0 n else None) → spans os bs va ≡ (if m then first_spans n s else bare_spans (first_spans n s))
parts-taken s os bs va n last m h k e f g v =
    let z = h.rising.0 in
    let l : last ≡ begin s.offsets n = f ∙ ap last_of e ∙ last-first s.offsets n z k in
    let b : bs ≡ take (begin s.offsets n) s.bytes = g ∙ ap (λ i. take i s.bytes) l in
    by-mask m v e b
  where
    by-mask : (m : Bool) → va ≡ (if m then sliced_validity s.validity 0 n else None) → os ≡ take (n + 1) s.offsets → bs ≡ take (begin s.offsets n) s.bytes → spans os bs va ≡ (if m then first_spans n s else bare_spans (first_spans n s))
    by-mask true v e b = λ w. spans (e w) (b w) (v w)
    by-mask false v e b = λ w. spans (e w) (b w) (v w)

pub parts-joined : (s r : Spans) (os bs cs : List ℕ) (va vb : Validity) (n m : ℕ) → os ≡ s.offsets ++ map (λ e. last_of s.offsets + e) (drop 1 r.offsets) → bs ≡ s.bytes ++ cs → cs ≡ r.bytes
    → va ≡ joined_validity s.validity n vb m → vb ≡ r.validity → n ≡ count_rows s.offsets → m ≡ count_rows r.offsets → spans os bs va ≡ joined_spans s r
parts-joined s r os bs cs va vb n m e f g v x i j =
    let b = f ∙ ap (λ ys. s.bytes ++ ys) g in
    λ w. spans (e w) (b w) ((v ∙ (λ q. joined_validity s.validity (i q) (x q) (j q))) w)

pub taken-whole : (s : Spans) (n : ℕ) (m : Bool) → AreSpans s → n ≤ count_rows s.offsets
    → Whole (if m then first_spans n s else bare_spans (first_spans n s))
taken-whole s n true h k = first-whole s n h k
taken-whole s n false h k = ((first-whole s n h k).0, tt, bare-none (take (n + 1) s.offsets))

-- a call that fails only on allocation never returns `Overflow`
pub memory-alone : {T U : Type 0} (r : Result T Error) (x : U) (P : Type 0) → IsOkUnless r (Memory alloc_error) → (P → IsErrOf {T = U} {E = Error} (Ok x) Overflow) → (IsErrOf r Overflow → P) × (P → IsErrOf r Overflow)
memory-alone {T} {U} r x P h n = (λ e. absurd (never r h e), λ p. absurd (not-err x (n p)))
  where
    never : (r : Result T Error) → IsOkUnless r (Memory alloc_error) → IsErrOf r Overflow → ⊥
    never (Ok y) h e = cc
    never (Err y) h e = cc

    not-err : (x : U) → IsErrOf {T = U} {E = Error} (Ok x) Overflow → ⊥
    not-err x e = cc

pub each-taken : (s : Spans) (n : ℕ) (m : Bool) → AreSpans s → n ≤ count_rows s.offsets → EachUtf8 s.offsets s.bytes → EachUtf8 (if m then first_spans n s else bare_spans (first_spans n s)).offsets (if m then first_spans n s else bare_spans (first_spans n s)).bytes
each-taken s n true h k t = each-first s n h k t
each-taken s n false h k t = each-first s n h k t

pub each-at : (s r : Spans) → s ≡ r → EachUtf8 r.offsets r.bytes → EachUtf8 s.offsets s.bytes
each-at s r e t = subst (λ (q : Spans). EachUtf8 q.offsets q.bytes) (sym e) t

-- after a call that returned an error or not
pub each-after : {T : Type 0} (r : Result T Error) (new grown old : Spans) → OnOk r (new ≡ grown) → OnErr r (new ≡ old) → EachUtf8 grown.offsets grown.bytes → EachUtf8 old.offsets old.bytes → EachUtf8 new.offsets new.bytes
each-after (Ok x) new grown old a b t u = each-at new grown a t
each-after (Err e) new grown old a b t u = each-at new old b u

-- parts that form a UTF-8 array
pub text-fits : (l : Bool) (t : TypeTree) (s : Spans) → AreSpans s → EachUtf8 s.offsets s.bytes → physical_type t ≡ utf8_of_width l → TopFits (utf8 l t s.offsets s.bytes s.validity)
text-fits l t s h e p = let k = h.ends in (h.rising, (omega arith, (e, (h.fits, (p, tt)))))

validity-whole : (va : Validity) (n : ℕ) → ValidityFits va n → sliced_validity va 0 n ≡ va
validity-whole None n h = refl
validity-whole (Some bits) n h = ap Some (take_all n bits (omega arith))

-- ---- the slots of binary or UTF-8 arrays
module _ (make : Spans → Layout) (wrap : List ℕ → Slot) (kind : SpansKind make wrap) where
  pub kind-joined : (s r : Spans) → AreSpans s → AreSpans r → slots_of (make (joined_spans s r)) ≡ slots_of (make s) ++ slots_of (make r)
  kind-joined s r h k =
      let n = count_rows s.offsets in
      let m = count_rows r.offsets in
      let a = kind.count s in
      let b = kind.count r in
      let c = kind.count (joined_spans s r) in
      let e = rows-both s.offsets r.offsets h.rising.0 in
      slots-joined (make s) (make r) (make (joined_spans s r)) (omega arith)
      (λ i j.
      let q : i < n = omega arith in
      kind.place (joined_spans s r) i
      ∙ (λ w. if valid-before s.validity r.validity n m i h.fits q w then wrap (before-bytes s.offsets r.offsets s.bytes r.bytes i h.rising h.ends q w) else slots.null)
      ∙ sym (kind.place s i))
      (λ i j.
      let q : i < m = omega arith in
      ap (λ p. slot (make (joined_spans s r)) (p + i)) a
      ∙ kind.place (joined_spans s r) (n + i)
      ∙ (λ w. if valid-after s.validity r.validity n m i h.fits q w then wrap (after-bytes s.offsets r.offsets s.bytes r.bytes i h.rising.0 h.ends k.first q w) else slots.null)
      ∙ sym (kind.place r i))

  kind-one : (item : Option (List ℕ)) → slots_of (make (one item)) ≡ optional wrap item ∷ []
  kind-one None = ap (run (slot (make (one None))) 0) (kind.count (one None)) ∙ ap (λ x. x ∷ []) (kind.place (one None) 0)
  kind-one (Some xs) =
      ap (run (slot (make (one (Some xs)))) 0) (kind.count (one (Some xs)))
      ∙ ap (λ x. x ∷ []) (kind.place (one (Some xs)) 0 ∙ ap wrap (whole-item xs))

  pub kind-pushed : (s : Spans) (item : Option (List ℕ)) → AreSpans s → slots_of (make (pushed_span item s)) ≡ slots_of (make s) ++ optional wrap item ∷ []
  kind-pushed s item h =
      ap (λ (r : Spans). slots_of (make r)) (pushed-one s item)
      ∙ kind-joined s (one item) h (one-spans item)
      ∙ ap (λ ss. slots_of (make s) ++ ss) (kind-one item)

  pub kind-first : (s : Spans) (n : ℕ) → AreSpans s → n ≤ count_rows s.offsets → slots_of (make (first_spans n s)) ≡ sublist (slots_of (make s)) 0 n
  kind-first s n h k =
      let os = take (n + 1) s.offsets in
      let va = sliced_validity s.validity 0 n in
      let long : Spans = spans os s.bytes va in
      let r = rows-first s.offsets n h.rising.0 k in
      let a = kind.count (first_spans n s) in
      let b = kind.count long in
      let c = kind.count s in
      slots-from_places (make (first_spans n s)) (make long) (a ∙ sym b)
      (λ i j.
      kind.place (first_spans n s) i
      ∙ (λ w. if valid_at va i then wrap (first-bytes s.offsets s.bytes n i h.rising k (omega arith) w) else slots.null)
      ∙ sym (kind.place long i))
      ∙ ap slots_of (sym (kind.short s n))
      ∙ slots-cut (make s) 0 n (omega arith)

  -- the layout of updated parts
  pub kept-with : (s r : Spans) (a : Layout) (f : Spans → Spans) → make s ≡ a → r ≡ f s → make r ≡ with_spans a (f (spans_of a))
  kept-with s r a f e g =
      ap make g
      ∙ sym (kind.changed s (f s))
      ∙ ap (λ (q : Spans). with_spans (make s) (f q)) (sym (kind.shown s))
      ∙ ap (λ b. with_spans b (f (spans_of b))) e

  first-both : (s r : Spans) (n : ℕ) → AreSpans s → n ≤ count_rows s.offsets → is_some s.validity ≡ true → first_spans n (joined_spans s r) ≡ first_spans n s
  first-both s r n h k m =
      let z = h.rising.0 in
      let more = map (λ (e : ℕ). last_of s.offsets + e) (drop 1 r.offsets) in
      let os = take-append-le (n + 1) s.offsets more (omega arith) in
      let e = get_or_append_left s.offsets more 0 n (omega arith) in
      let l = h.rising.1 n (length s.offsets - 1) (omega arith) (omega arith) in
      let ends = h.ends in
      let bs = ap (λ i. take i (s.bytes ++ r.bytes)) e ∙ take-append-le (begin s.offsets n) s.bytes r.bytes (omega arith) in
      let va = validity-back s.validity r.validity (count_rows s.offsets) (count_rows r.offsets) n h.fits k m in
      λ w. spans (os w) (bs w) (va w)

  bare-both : (s r : Spans) (n : ℕ) → AreSpans s → n ≤ count_rows s.offsets → bare_spans (first_spans n (joined_spans s r)) ≡ bare_spans (first_spans n s)
  bare-both s r n h k =
      let z = h.rising.0 in
      let more = map (λ (e : ℕ). last_of s.offsets + e) (drop 1 r.offsets) in
      let os = take-append-le (n + 1) s.offsets more (omega arith) in
      let e = get_or_append_left s.offsets more 0 n (omega arith) in
      let l = h.rising.1 n (length s.offsets - 1) (omega arith) (omega arith) in
      let ends = h.ends in
      let bs = ap (λ i. take i (s.bytes ++ r.bytes)) e ∙ take-append-le (begin s.offsets n) s.bytes r.bytes (omega arith) in
      λ w. spans (os w) (bs w) None

  -- the first slots, or those without a validity
  pub kind-taken : (s : Spans) (n : ℕ) (m : Bool) → rolled_back (make s) n m ≡ make (if m then first_spans n s else bare_spans (first_spans n s))
  kind-taken s n true = kind.first s n
  kind-taken s n false = ap (λ a. with_validity a None) (kind.first s n) ∙ kind.bare (first_spans n s)

  kind-back : (s r : Spans) (n : ℕ) (m : Bool) → AreSpans s → n ≤ count_rows s.offsets → (m ≡ true → is_some s.validity ≡ true) → rolled_back (make (joined_spans s r)) n m ≡ rolled_back (make s) n m
  kind-back s r n true h k e = kind-taken (joined_spans s r) n true ∙ ap make (first-both s r n h k (e refl)) ∙ sym (kind-taken s n true)
  kind-back s r n false h k e = kind-taken (joined_spans s r) n false ∙ ap make (bare-both s r n h k) ∙ sym (kind-taken s n false)

  pub grew-joined : (s r : Spans) → AreSpans s → AreSpans r → Grew (slots_of (make r)) (make s) (make (joined_spans s r))
  grew-joined s r h k =
      let b = kind.bits s in
      let c = kind.bits (joined_spans s r) in
      let l = kind.count s in
      record {
        slots = kind-joined s r h k;
        same_type = kind.typed (joined_spans s r) s;
        masked = λ e. ap is_some c ∙ masked-joined s.validity r.validity (count_rows s.offsets) (count_rows r.offsets) (ap is_some (sym b) ∙ e);
        back = λ n m i e. kind-back s r n m h (omega arith) (λ f. ap is_some (sym b) ∙ e f);
      }

  pub grew-pushed : (s : Spans) (item : Option (List ℕ)) → AreSpans s → Grew (optional wrap item ∷ []) (make s) (make (pushed_span item s))
  grew-pushed s item h = rw (pushed-one s item, ← kind-one item) (grew-joined s (one item) h (one-spans item))

  whole-masked : (s : Spans) (m : Bool) → AreSpans s → m ≡ is_some s.validity → (if m then first_spans (count_rows s.offsets) s else bare_spans (first_spans (count_rows s.offsets) s)) ≡ s
  whole-masked s m h e =
      let z = h.rising.0 in
      let os = take_all (count_rows s.offsets + 1) s.offsets (omega arith) in
      let l = h.ends in
      let bs = take_all (begin s.offsets (count_rows s.offsets)) s.bytes (omega arith) in
      masked-whole s m os bs (validity-whole s.validity (count_rows s.offsets) h.fits) e
    where
      masked-whole : (s : Spans) (m : Bool) → take (count_rows s.offsets + 1) s.offsets ≡ s.offsets → take (begin s.offsets (count_rows s.offsets)) s.bytes ≡ s.bytes → sliced_validity s.validity 0 (count_rows s.offsets) ≡ s.validity → m ≡ is_some s.validity
          → (if m then first_spans (count_rows s.offsets) s else bare_spans (first_spans (count_rows s.offsets) s)) ≡ s
      masked-whole s true a b c e = λ w. spans (a w) (b w) (c w)
      masked-whole s false a b c e = let n = unmasked s.validity e in λ w. spans (a w) (b w) (n w)
        where
          unmasked : (va : Validity) → false ≡ is_some va → None ≡ va
          unmasked None e = refl
          unmasked (Some bits) e = cc

  -- all slots taken back
  pub kind-whole : (s : Spans) → AreSpans s → rolled_back (make s) (len (make s)) (is_masked (make s)) ≡ make s
  kind-whole s h =
      ap (λ n. rolled_back (make s) n (is_masked (make s))) (kind.count s)
      ∙ kind-taken s (count_rows s.offsets) (is_masked (make s))
      ∙ ap make (whole-masked s (is_masked (make s)) h (ap is_some (kind.bits s)))
