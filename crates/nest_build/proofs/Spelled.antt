-- The rows that offsets and a validity encode over a child are the slots of the list array.
use Rattle.std.specs.Prelude.{Some, None, if◌then◌else◌}
use Rattle.std.proofs.Common.{◌≡◌, ℕ, zero, suc, ◌+◌, ◌-◌, ◌<◌, ◌≤◌, Bool, true, false, List, [], ◌∷◌, length, map, drop, get_or, refl, ap, sym, ◌∙◌, subst, arith}
use Rattle.std.proofs.lemmas.List.{get_or-map}
use Rattle.nest_memory.specs.TypeTree.{TypeTree, item_type}
use Rattle.nest_memory.specs.Physical.{physical_type, list_of_width}
use Rattle.nest_memory.specs.Sublist.{sublist}
use Rattle.nest_memory.specs.Rising.{last_of}
use Rattle.nest_model.specs.Part.{Validity, valid_at, count_rows, begin, extent}
use Rattle.nest_model.specs.Fits.{Fits, ValidityFits}
use Rattle.nest_model.specs.Slot as slots
use Rattle.nest_model.specs.Slot.{Slot, seal}
use Rattle.nest_model.specs.Layout.{Layout, layout_type}
use Rattle.nest_model.specs.Meaning.{run, len, slot, slots_of}
use Rattle.nest_model.specs.Reads.{items-cut, extent-fits}
use Rattle.nest_model.specs.BuilderRow.{Row, row_ending, end_from}
use Rattle.nest_model.specs.BuilderLevels.{valid_or_null, rows_of_items}
use Rattle.nest_build.specs.Rows.{zip_rows, rows_ending, EncodesRows}
use Rattle.nest_model.specs.Layout as layouts
use Rattle.nest_build.proofs.Rows.{row_list-count, row_list-ends, row_list-end, first-rest, tail-count}

abbrev ends : List Row → List ℕ
ends rs = map (λ (r : Row). r.end) rs

abbrev at : List Row → ℕ → Row
at rs i = get_or rs i (row_ending true 0)

abbrev start : ℕ → List Row → ℕ → ℕ
start s rs i = get_or (s ∷ ends rs) i 0

-- the slot of row i
abbrev row_at : ℕ → List Row → List Slot → ℕ → Slot
row_at s rs xs i = valid_or_null (at rs i).valid (slots.list (seal (sublist xs (start s rs i) ((at rs i).end - start s rs i))))

by-places : (f : ℕ → Slot) (xs : List Slot) (s o : ℕ) (rs : List Row) → ((i : ℕ) → i < length rs → f (o + i) ≡ row_at s rs xs i) → rows_of_items s rs xs ≡ run f o (length rs)
by-places f xs s o [] h = refl
by-places f xs s o (r ∷ rs) h =
    let z : o ≡ o + 0 = omega arith in
    let first = ap f z ∙ h 0 (omega arith) in
    let rest = by-places f xs r.end (suc o) rs (λ i k. ap f (let e : suc o + i ≡ o + suc i = omega arith in e) ∙ h (suc i) (omega arith)) in
    λ j. sym first j ∷ rest j

valid-zip : (bits : List Bool) (es : List ℕ) (i : ℕ) → length bits ≡ length es → i < length es → (at (zip_rows bits es) i).valid ≡ get_or bits i true
valid-zip [] [] i h k = absurd (omega arith)
valid-zip [] (e ∷ es) i h k = absurd (omega arith)
valid-zip (b ∷ bits) [] i h k = absurd (omega arith)
valid-zip (b ∷ bits) (e ∷ es) zero h k = refl
valid-zip (b ∷ bits) (e ∷ es) (suc i) h k = valid-zip bits es i (omega arith) (omega arith)

valid-ending : (va : Validity) (es : List ℕ) (i : ℕ) → ValidityFits va (length es) → i < length es → (at (rows_ending va es) i).valid ≡ valid_at va i
valid-ending None es i h k = ap (λ (r : Row). r.valid) (get_or-map (row_ending true) es i 0 (row_ending true 0) k)
valid-ending (Some bits) es i h k = valid-zip bits es i h k

module _ (large : Bool) (os : List ℕ) (va : Validity) (rs : List Row) (s : EncodesRows os va rs) where
  count : length rs ≡ count_rows os
  count = row_list-count os va rs s.row_list s.fits

  complete : os ≡ 0 ∷ ends rs
  complete = first-rest os s.offsets.0 s.first ∙ ap (λ xs. 0 ∷ xs) (sym (row_list-ends os va s.fits) ∙ ap ends s.row_list)

  starts : (i : ℕ) → begin os i ≡ start 0 rs i
  starts i = ap (λ xs. get_or xs i 0) complete

  stops : (i : ℕ) → i < length rs → get_or os (i + 1) 0 ≡ (at rs i).end
  stops i k =
      ap (λ xs. get_or xs (i + 1) 0) complete
      ∙ ap (λ n. get_or (0 ∷ ends rs) n 0) (let e : i + 1 ≡ suc i = omega arith in e)
      ∙ get_or-map (λ (r : Row). r.end) rs i (row_ending true 0) 0 k

  valids : (i : ℕ) → i < length rs → (at rs i).valid ≡ valid_at va i
  valids i k =
      let c = tail-count os in
      let l : i < length (drop 1 os) = omega (arith, count) in
      ap (λ qs. (at qs i).valid) (sym s.row_list) ∙ valid-ending va (drop 1 os) i (subst (ValidityFits va) (sym c) s.fits) l

  where-valid : (b c : Bool) (x y : Slot) → b ≡ c → x ≡ y → (if c then x else slots.null) ≡ valid_or_null b y
  where-valid true c x y e h = rw (← e) h
  where-valid false c x y e h = rw (← e) refl

  row-slot : (t : TypeTree) (c : Layout) (i : ℕ) → last_of os ≤ len c → i < length rs → slot (layouts.list large t os c va) i ≡ row_at 0 rs (slots_of c) i
  row-slot t c i l k =
      let n : i < count_rows os = omega (arith, count) in
      let p = starts i in
      let q = stops i k in
      let cuts = items-cut c (begin os i) (extent os i) (extent-fits os (len c) i s.offsets l n) in
      let same : sublist (slots_of c) (begin os i) (extent os i) ≡ sublist (slots_of c) (start 0 rs i) ((at rs i).end - start 0 rs i) =
      λ j. sublist (slots_of c) (p j) (q j - p j) in
      where-valid (at rs i).valid (valid_at va i) (slots.list (seal (run (slot c) (begin os i) (extent os i)))) (slots.list (seal (sublist (slots_of c) (start 0 rs i) ((at rs i).end - start 0 rs i))))
      (valids i k) (ap (λ ss. slots.list (seal ss)) (cuts ∙ same))

  -- the slots of the array are those of the rows
  pub spelled : (t : TypeTree) (c : Layout) → last_of os ≤ len c → slots_of (layouts.list large t os c va) ≡ rows_of_items 0 rs (slots_of c)
  spelled t c l =
      ap (run (slot (layouts.list large t os c va)) 0) (sym count)
      ∙ sym (by-places (slot (layouts.list large t os c va)) (slots_of c) 0 0 rs (λ i k. ap (slot (layouts.list large t os c va)) (let z : 0 + i ≡ i = omega arith in z) ∙ row-slot t c i l k))

  pub spelled-end : end_from 0 rs ≡ last_of os
  spelled-end = row_list-end os va rs s.row_list s.offsets.0 s.first s.fits

-- the parts of the array fit
pub spelled-fits : (large : Bool) (t : TypeTree) (os : List ℕ) (c : Layout) (va : Validity) (rs : List Row) → EncodesRows os va rs → physical_type t ≡ list_of_width large → item_type t ≡ Some (layout_type c) → end_from 0 rs ≤ len c
    → Fits (layouts.list large t os c va)
spelled-fits large t os c va rs s p i l = (omega (arith, l, spelled-end large os va rs s), (s.fits, (p, (i, tt))))

pub spelled-slots : (large : Bool) (t : TypeTree) (os : List ℕ) (c : Layout) (va : Validity) (rs : List Row) → EncodesRows os va rs → end_from 0 rs ≤ len c → slots_of (layouts.list large t os c va) ≡ rows_of_items 0 rs (slots_of c)
spelled-slots large t os c va rs s l = spelled large os va rs s t c (omega (arith, l, spelled-end large os va rs s))
