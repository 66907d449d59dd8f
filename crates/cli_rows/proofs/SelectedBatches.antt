-- Selected rows as record batches.
use Rattle.std.proofs.Common.{◌≡◌, ℕ, zero, suc, ◌+◌, ◌<◌, Bool, true, false, if◌then◌else◌, List, [], ◌∷◌, ◌++◌, length, take, drop, get_or, map, Some, None, refl, sym, ap, subst, ◌∙◌, arith}
use Rattle.std.specs.Prelude.{◌==◌, ⊤, OnOk, Result, Ok, Err, nat_lt}
use Rattle.std.specs.List.{AllByRecursion, filter, flat_map, list_all}
use Rattle.std.proofs.lemmas.Bool.{eqb-true}
use Rattle.std.proofs.lemmas.List.{flat_map_more, length-map, map-append, take_more}
use Rattle.std.proofs.lemmas.List.Elements.{filter-append}
use Rattle.nest_memory.specs.Sublist.{sublist}
use Rattle.nest_memory.specs.Physical.{physical_type}
use Rattle.nest_memory.specs.TypeTree as types
use Rattle.nest_memory.specs.TypeTree.{FieldTree, TypeTree}
use Rattle.nest_memory.specs.declared.datatypes.physical_type.PhysicalType.TheVariants as physical
use Rattle.nest_model.specs.Selected.{indices_from, selected}
use Rattle.nest_model.specs.SelectedLaws.{mask_indices-true}
use Rattle.nest_model.specs.Slice.{IsSlice}
use Rattle.nest_model.specs.Layout as layouts
use Rattle.nest_model.specs.Layout.{Layout, Layouts, layout_type}
use Rattle.nest_model.specs.Meaning.{each, first_len, len, run, slot, slots_of}
use Rattle.nest_model.specs.Part.{Validity, valid_at}
use Rattle.nest_model.specs.Reads.{slot-place}
use Rattle.nest_model.specs.Slot as slots
use Rattle.nest_model.specs.Slot.{Slot}
use Rattle.nest_array.specs.Seen.{layout_of, layouts_of}
use Rattle.nest_array.specs.declared.any.AnyArray.{AnyArray}
use Rattle.nest_array.specs.WindowParts.{WindowParts, window_parts}
use Rattle.nest_take.specs.Indices.{AreBelow}
use Rattle.nest_take.specs.Taken.{IsTaken}
use Rattle.ipc.specs.Streams.{RecordBatchTree}
use Rattle.cli_args.specs.Conditions.{ConditionTree}
use Rattle.cli_args.specs.Requests.{SelectionTree, all, indices, slice, where_true}
use Rattle.cli_rows.specs.Selection.{selected_rows}
use Rattle.cli_rows.specs.Rows.{RowSlot, rows_at_indices, rows_in, rows_of}
use Rattle.cli_rows.specs.RowLaws.{rows-length}
use Rattle.cli_rows.specs.Conditions.{is_true_in, is_valid, true_indices}
use Rattle.cli_rows.specs.Records.{record_type, records, side_by_side}
use Rattle.cli_rows.specs.Compared.{batch_array}
use Rattle.cli_rows.specs.SelectedTables.{AreRowsOf, IsRowOf, batch_rows}

module _ {A : Type 0} (P : A → Type 0) where
  pub both-all : (xs ys : List A) → AllByRecursion P xs → AllByRecursion P ys → AllByRecursion P (xs ++ ys)
  both-all [] ys h k = k
  both-all (x ∷ xs) ys h k = (h.0, both-all xs ys h.1 k)

  left-all : (xs ys : List A) → AllByRecursion P (xs ++ ys) → AllByRecursion P xs
  left-all [] ys h = tt
  left-all (x ∷ xs) ys h = (h.0, left-all xs ys h.1)

  right-all : (xs ys : List A) → AllByRecursion P (xs ++ ys) → AllByRecursion P ys
  right-all [] ys h = h
  right-all (x ∷ xs) ys h = right-all xs ys h.1

  take-each : (n : ℕ) (xs : List A) → AllByRecursion P xs → AllByRecursion P (take n xs)
  take-each zero xs h = tt
  take-each (suc n) [] h = tt
  take-each (suc n) (x ∷ xs) h = (h.0, take-each n xs h.1)

  drop-each : (n : ℕ) (xs : List A) → AllByRecursion P xs → AllByRecursion P (drop n xs)
  drop-each zero xs h = h
  drop-each (suc n) [] h = tt
  drop-each (suc n) (x ∷ xs) h = drop-each n xs h.1

  cut-each : (xs : List A) (o n : ℕ) → AllByRecursion P xs → AllByRecursion P (sublist xs o n)
  cut-each xs o n h = take-each n (drop o xs) (drop-each o xs h)

  at-each : (xs : List A) (places : List ℕ) → AllByRecursion P xs → AllByRecursion P (rows_at_indices xs places)
  at-each xs [] h = tt
  at-each xs (p ∷ ps) h = both-all (sublist xs p 1) (rows_at_indices xs ps) (cut-each xs p 1 h) (at-each xs ps h)

  filter-each : (test : A → Bool) (xs : List A) → AllByRecursion P xs → AllByRecursion P (filter test xs)
  filter-each test [] h = tt
  filter-each test (x ∷ xs) h = by_test (test x) (filter-each test xs h.1)
    where
      by_test : (b : Bool) → AllByRecursion P (filter test xs) → AllByRecursion P (if b then x ∷ filter test xs else filter test xs)
      by_test true rest = (h.0, rest)
      by_test false rest = rest

  pub piece-each : {X : Type 0} (f : X → List A) (xs : List X) (i : ℕ) (x : X) → i < length xs → x ≡ get_or xs i x → AllByRecursion P (flat_map f xs) → AllByRecursion P (f x)
  piece-each f [] i x h e k = absurd (omega (arith, h))
  piece-each f (y ∷ ys) zero x h e k = subst (λ z. AllByRecursion P (f z)) (sym e) (left-all (f y) (flat_map f ys) k)
  piece-each f (y ∷ ys) (suc i) x h e k = piece-each f ys i x (omega (arith, h)) e (right-all (f y) (flat_map f ys) k)

  pub view-each : {X Y : Type 0} (f : Y → List A) (h : X → Y) (xs : List X) (i : ℕ) (x : X) → i < length xs → x ≡ get_or xs i x → AllByRecursion P (flat_map f (map h xs)) → AllByRecursion P (f (h x))
  view-each f h [] i x lt e k = absurd (omega (arith, lt))
  view-each f h (y ∷ ys) zero x lt e k = subst (λ z. AllByRecursion P (f (h z))) (sym e) (left-all (f (h y)) (flat_map f (map h ys)) k)
  view-each f h (y ∷ ys) (suc i) x lt e k = view-each f h ys i x (omega (arith, lt)) e (right-all (f (h y)) (flat_map f (map h ys)) k)

  pub middle-each : {X Y : Type 0} (f : Y → List A) (h : X → Y) (xs : List X) (x : X) (ys : List X) → AllByRecursion P (flat_map f (map h (xs ++ x ∷ ys))) → AllByRecursion P (f (h x))
  middle-each f h [] x ys k = left-all (f (h x)) (flat_map f (map h ys)) k
  middle-each f h (z ∷ zs) x ys k = middle-each f h zs x ys (right-all (f (h z)) (flat_map f (map h (zs ++ x ∷ ys))) k)

abbrev rowed : TypeTree → List Slot → List RowSlot
rowed t ss = map (λ s. (t, s)) ss

null-run : (fs : List FieldTree) (o n : ℕ) → AreRowsOf [] (map (λ s. (types.null, s)) (run (λ i. slots.null) o n))
null-run fs o zero = tt
null-run fs o (suc n) = (refl, null-run fs (suc o) n)

record-run : (f : FieldTree) (fs : List FieldTree) (cs : Layouts) (o n : ℕ) → AreRowsOf (f ∷ fs) (map (λ s. (record_type (f ∷ fs), s)) (run (λ i. slots.record_of (each cs i)) o n))
record-run f fs cs o zero = tt
record-run f fs cs o (suc n) = ((refl, refl), record-run f fs cs (suc o) n)

pub batch-each : (fs : List FieldTree) (b : RecordBatchTree) → AreRowsOf fs (rows_of (batch_array fs b))
batch-each [] b = null-run [] 0 b.rows
batch-each (f ∷ fs) b = record-run f fs _ 0 (len (records (record_type (f ∷ fs)) b.columns))

pub held-each : (fs : List FieldTree) (bs : List RecordBatchTree) → AreRowsOf fs (batch_rows fs bs)
held-each fs [] = tt
held-each fs (b ∷ bs) = both-all (IsRowOf fs) (rows_of (batch_array fs b)) (batch_rows fs bs) (batch-each fs b) (held-each fs bs)

pub selected-each : (fs : List FieldTree) (c : SelectionTree) (rows picked : List RowSlot) → selected_rows c rows ≡ Some picked → AreRowsOf fs rows → AreRowsOf fs picked
selected-each fs all rows picked e h = let same : rows ≡ picked = cc in subst (AreRowsOf fs) same h
selected-each fs (slice o n) rows picked e h = let same : sublist rows o n ≡ picked = cc in subst (AreRowsOf fs) same (cut-each (IsRowOf fs) rows o n h)
selected-each fs (indices places) rows picked e h = by_places (list_all (λ p. nat_lt p (length rows)) places) e
  where
    by_places : (b : Bool) → (if b then Some (rows_at_indices rows places) else None) ≡ Some picked → AreRowsOf fs picked
    by_places true e = let same : rows_at_indices rows places ≡ picked = cc in subst (AreRowsOf fs) same (at-each (IsRowOf fs) rows places h)
    by_places false e = absurd cc
selected-each fs (where_true c) rows picked e h = let same : filter (is_true_in c) rows ≡ picked = cc in subst (AreRowsOf fs) same (filter-each (IsRowOf fs) (is_true_in c) rows h)

no-items : {A : Type 0} (f : Slot → A) (o n : ℕ) (s : ℕ → Slot) → n ≡ 0 → map f (run s o n) ≡ []
no-items f o zero s e = refl
no-items f o (suc n) s e = absurd (omega (arith, e))

pub no-rows : (a : Layout) → len a ≡ 0 → rows_of a ≡ []
no-rows a e = no-items (λ s. (layout_type a, s)) 0 (len a) (slot a) e

all-same : {A : Type 0} (x : A) (xs ys : List A) → length xs ≡ length ys → AllByRecursion (λ y. y ≡ x) xs → AllByRecursion (λ y. y ≡ x) ys → xs ≡ ys
all-same x [] [] e h k = refl
all-same x [] (y ∷ ys) e h k = absurd (omega (arith, e))
all-same x (z ∷ zs) [] e h k = absurd (omega (arith, e))
all-same x (z ∷ zs) (y ∷ ys) e h k =
    let first : z ≡ y = h.0 ∙ sym k.0 in
    let rest = all-same x zs ys (omega (arith, e)) h.1 k.1 in
    λ i. first i ∷ rest i

pub nulls-rows : (fs : List FieldTree) (a : Layout) (b : RecordBatchTree) → length fs ≡ 0 → b.rows ≡ len a → AreRowsOf fs (rows_of a) → rows_of (batch_array fs b) ≡ rows_of a
nulls-rows [] a b none e h =
    all-same (types.null, slots.null) (rows_of (batch_array [] b)) (rows_of a) (rows-length (batch_array [] b) ∙ e ∙ sym (rows-length a)) (null-run [] 0 b.rows) h
nulls-rows (f ∷ fs) a b none e h = absurd (omega (arith, none))

pub first-type : (fs : List FieldTree) (a : Layout) → 0 < length fs → 0 < len a → AreRowsOf fs (rows_of a) → layout_type a ≡ record_type fs
first-type [] a some more h = absurd (omega (arith, some))
first-type (f ∷ fs) a some more h = by_len (len a) more h
  where
    by_len : (n : ℕ) → 0 < n → AreRowsOf (f ∷ fs) (map (λ s. (layout_type a, s)) (run (slot a) 0 n)) → layout_type a ≡ record_type (f ∷ fs)
    by_len zero more h = absurd (omega (arith, more))
    by_len (suc n) more h = h.0.0

pub first-struct : (fs : List FieldTree) (a : Layout) → 0 < length fs → 0 < len a → AreRowsOf fs (rows_of a) → physical_type (layout_type a) ≡ physical.Struct
first-struct fs a some more h = ap physical_type (first-type fs a some more h)

shown-run : (f : FieldTree) (fs : List FieldTree) (t : TypeTree) (cs : Layouts) (va : Validity) (o n : ℕ)
    → AreRowsOf (f ∷ fs) (rowed t (run (slot (layouts.struct t cs va)) o n)) → rowed t (run (slot (layouts.struct t cs None)) o n) ≡ rowed t (run (slot (layouts.struct t cs va)) o n)
shown-run f fs t cs va o zero h = refl
shown-run f fs t cs va o (suc n) h = by_bit (valid_at va o) h.0.1 (shown-run f fs t cs va (suc o) n h.1)
  where
    by_bit : (b : Bool) → is_valid (if b then slots.record_of (each cs o) else slots.null) ≡ true → rowed t (run (slot (layouts.struct t cs None)) (suc o) n) ≡ rowed t (run (slot (layouts.struct t cs va)) (suc o) n)
        → (t, slots.record_of (each cs o)) ∷ rowed t (run (slot (layouts.struct t cs None)) (suc o) n) ≡ (t, (if b then slots.record_of (each cs o) else slots.null)) ∷ rowed t (run (slot (layouts.struct t cs va)) (suc o) n)
    by_bit true e rest = ap (λ rs. (t, slots.record_of (each cs o)) ∷ rs) rest
    by_bit false e rest = absurd cc

pub records-rows : (fs : List FieldTree) (a : Layout) (b : RecordBatchTree) (cs : Layouts) (va : Validity) → 0 < length fs → 0 < len a → a ≡ layouts.struct (layout_type a) cs va
    → layouts.struct (layout_type a) cs None ≡ records (layout_type a) b.columns → AreRowsOf fs (rows_of a) → rows_of (batch_array fs b) ≡ rows_of a
records-rows [] a b cs va some more is made h = absurd (omega (arith, some))
records-rows (f ∷ fs) a b cs va some more is made h =
    let t = layout_type a in
    let typed = first-type (f ∷ fs) a some more h in
    let rows : AreRowsOf (f ∷ fs) (rows_of (layouts.struct t cs va)) = subst (λ z. AreRowsOf (f ∷ fs) (rows_of z)) is h in
    ap (λ u. rows_of (records u b.columns)) (sym typed)
    ∙ ap rows_of (sym made)
    ∙ shown-run f fs t cs va 0 (first_len cs) rows
    ∙ ap rows_of (sym is)

pub no-fields : {X : Type 0} (f : X → FieldTree) (xs : List X) → true ≡ (length xs == 0) → length (map f xs) ≡ 0
no-fields f xs h = length-map xs f ∙ eqb-true (length xs) 0 (sym h)

pub some-fields : {X : Type 0} (f : X → FieldTree) (xs : List X) → false ≡ (length xs == 0) → 0 < length (map f xs)
some-fields f [] h = absurd cc
some-fields f (x ∷ xs) h = omega arith

columns-side_by_side : (as_ : List AnyArray) → layouts_of as_ ≡ side_by_side (map layout_of as_)
columns-side_by_side [] = refl
columns-side_by_side (a ∷ as_) = ap (λ ls. layouts.more_layouts (layout_of a) ls) (columns-side_by_side as_)

pub columns-made : (t : TypeTree) (as_ : List AnyArray) → layouts.struct t (layouts_of as_) None ≡ records t (map layout_of as_)
columns-made t as_ = ap (λ ls. layouts.struct t ls None) (columns-side_by_side as_)

pub copied-more : {X Y : Type 0} (f : X → Y) (xs : List X) (i : ℕ) (x copy : X) (old new : List X) → i < length xs → x ≡ get_or xs i x → new ≡ old ++ copy ∷ [] → f copy ≡ f x
    → map f old ≡ map f (take i xs) → map f new ≡ map f (take (i + 1) xs)
copied-more f xs i x copy old new h e pushed same so_far =
    ap (map f) pushed
    ∙ map-append f old (copy ∷ [])
    ∙ ap (λ ys. ys ++ f copy ∷ []) so_far
    ∙ ap (λ y. map f (take i xs) ++ y ∷ []) (same ∙ ap f e)
    ∙ sym (ap (map f) (take_more xs i x h) ∙ map-append f (take i xs) (get_or xs i x ∷ []))

pub filtered-more : {X Y A : Type 0} (test : A → Bool) (g : Y → List A) (h : X → Y) (xs : List X) (i : ℕ) (x : X) (old new : List A) → i < length xs → x ≡ get_or xs i x → new ≡ old ++ filter test (g (h x))
    → old ≡ filter test (flat_map g (map h (take i xs))) → new ≡ filter test (flat_map g (map h (take (i + 1) xs)))
filtered-more test g h xs i x old new lt e more so_far =
    more
    ∙ ap (λ l. l ++ filter test (g (h x))) so_far
    ∙ sym (filter-append test (flat_map g (map h (take i xs))) (g (h x)))
    ∙ ap (filter test) (flat_map_more g [] (map h (take i xs)) (h x)
    ∙ ap (λ z. flat_map g (map h (take i xs) ++ h z ∷ [])) e
    ∙ ap (flat_map g) (sym (ap (map h) (take_more xs i x lt) ∙ map-append h (take i xs) (get_or xs i x ∷ []))))

pub batch-more : (fs : List FieldTree) (old new : List RecordBatchTree) (b : RecordBatchTree) (rows : List RowSlot) → new ≡ old ++ b ∷ [] → rows_of (batch_array fs b) ≡ rows → batch_rows fs new ≡ batch_rows fs old ++ rows
batch-more fs old new b rows pushed is =
    ap (batch_rows fs) pushed
    ∙ ap (flat_map rows_of) (map-append (batch_array fs) old (b ∷ []))
    ∙ sym (flat_map_more rows_of [] (map (batch_array fs) old) (batch_array fs b))
    ∙ ap (λ rs. batch_rows fs old ++ rs) is

pub cut-rows : (a b : Layout) (o n : ℕ) → IsSlice a o n b → rows_of b ≡ rows_in (window_parts a o n)
cut-rows a b o n h = ap (λ t. rowed t (slots_of b)) h.same_type ∙ ap (map (λ s. (layout_type a, s))) h.slots

pub no-window-rows : (w : WindowParts) → w.count ≡ 0 → rows_in w ≡ []
no-window-rows w e = ap (λ n. rows_in (window_parts w.array w.offset n)) e

module _ (c : ConditionTree) (t : TypeTree) (whole : List Slot) (s : ℕ → Slot) where
  abbrev mask : List RowSlot → List Slot
  mask rows = map (λ r. slots.boolean (is_true_in c r)) rows

  -- the slots at the indices of the rows where the condition is true
  abbrev Takes : ℕ → ℕ → Type 0
  Takes o n = rowed t (selected whole (indices_from o (mask (rowed t (run s o n))))) ≡ filter (is_true_in c) (rowed t (run s o n))

  taken-run : (o n : ℕ) → ((i : ℕ) → i < n → get_or whole (o + i) slots.null ≡ s (o + i)) → Takes o n
  taken-run o zero here = refl
  taken-run o (suc n) here = by_truth (is_true_in c (t, s o)) (taken-run (suc o) n (λ i h. subst (λ k. get_or whole k slots.null ≡ s k) (next i) (here (suc i) (omega (arith, h)))))
    where
      first : o + 0 ≡ o
      first = omega arith

      next : (i : ℕ) → o + suc i ≡ suc o + i
      next i = omega arith

      by_truth : (b : Bool) → Takes (suc o) n
          → rowed t (selected whole (indices_from o (slots.boolean b ∷ mask (rowed t (run s (suc o) n))))) ≡ (if b then (t, s o) ∷ filter (is_true_in c) (rowed t (run s (suc o) n)) else filter (is_true_in c) (rowed t (run s (suc o) n)))
      by_truth true rest =
          let place : get_or whole o slots.null ≡ s o = subst (λ k. get_or whole k slots.null ≡ s k) first (here 0 (omega arith)) in
          (λ i. (t, place i) ∷ rest i)
      by_truth false rest = rest

pub true-rows : (c : ConditionTree) (a b : Layout) → IsTaken a (true_indices c (rows_of a)) b → rows_of b ≡ filter (is_true_in c) (rows_of a)
true-rows c a b taken =
    ap (λ t. rowed t (slots_of b)) taken.same_type
    ∙ ap (map (λ s. (layout_type a, s))) taken.slots
    ∙ taken-run c (layout_type a) (slots_of a) (slot a) 0 (len a)
    (λ i lt. let e : 0 + i ≡ i = omega arith in subst (λ k. get_or (slots_of a) k slots.null ≡ slot a k) (sym e) (slot-place a i slots.null lt))

pub true-below : (c : ConditionTree) (a : Layout) (is : List ℕ) → is ≡ true_indices c (rows_of a) → AreBelow is (len a)
true-below c a is e = subst (λ z. AreBelow z (len a)) (sym e) (λ j d h. let t = mask_indices-true (map (λ r. slots.boolean (is_true_in c r)) (rows_of a)) j d h in omega (arith, t.0, length-map (rows_of a) (λ r. slots.boolean (is_true_in c r)), rows-length a))

pub filtered-each : (fs : List FieldTree) (c : ConditionTree) (rows : List RowSlot) → AreRowsOf fs rows → AreRowsOf fs (filter (is_true_in c) rows)
filtered-each fs c rows h = filter-each (IsRowOf fs) (is_true_in c) rows h

pub rows-result : {E : Type 0} (old new rows same : List RowSlot) (r : Result ⊤ E) → rows ≡ same → OnOk r (new ≡ old ++ rows) → OnOk r (new ≡ old ++ same)
rows-result old new rows same (Ok x) e h = h ∙ ap (λ rs. old ++ rs) e
rows-result old new rows same (Err x) e h = h
