-- The calls of a list builder.
use Rattle.std.specs.Prelude.{◌⊎◌, ltb, ◌||◌, Option, Some, None, alloc_error}
use Rattle.std.proofs.Common.{◌≡◌, ℕ, suc, ◌+◌, ◌<◌, ◌≤◌, Bool, true, false, List, [], ◌∷◌, ◌++◌, length, get_or, take, refl, sym, ap, ◌∙◌, inl, inr, arith}
use Rattle.std.specs.Option.{unwrap_or}
use Rattle.std.proofs.lemmas.Bool.{lt-ltb}
use Rattle.std.proofs.lemmas.List.{take_more}
use Rattle.nest_build.proofs.Rows.{row_list-append}
use Rattle.nest_memory.specs.TypeTree.{TypeTree}
use Rattle.nest_memory.specs.Rising.{largest_offset}
use Rattle.nest_memory.specs.declared.error.Error.{Error}
use Rattle.nest_memory.specs.declared.error.Error.TheVariants.{Memory, Overflow, InvalidArgumentError}
use Rattle.nest_memory.specs.declared.error.ArgumentError.TheVariants.{ItemType, LengthsSum, Incomplete}
use Rattle.nest_model.specs.Layout.{Layout}
use Rattle.nest_model.specs.Meaning.{len, slots_of}
use Rattle.nest_model.specs.Reads.{slots-length}
use Rattle.nest_model.specs.BuilderLevelLaws.{own-length}
use Rattle.nest_model.specs.BuilderRow.{Row, row_ending, end_from}
use Rattle.nest_model.specs.BuilderTree.{BuilderTree, list, builder_len, builder_type}
use Rattle.nest_model.specs.BuilderLevels.{own_slots}
use Rattle.nest_model.specs.BuilderComplete.{IsComplete}
use Rattle.nest_model.specs.BuilderTruncateLaws.{type-cut}
use Rattle.nest_model.specs.BuilderItem as items
use Rattle.nest_model.specs.BuilderItem.{seal_items}
use Rattle.nest_model.specs.BuilderAppend.{Accepted}
use Rattle.nest_model.specs.BuilderAddRow.{RowAdded, RowsAdded, items_of_lengths, rows_of_lengths, CoversRows, HasCompleteChildren, lengths_checks}
use Rattle.nest_model.specs.BuilderAppendLaws.{list_accepted}
use Rattle.nest_model.specs.BuilderJoin.{Joined, moved, join_checks, join_passes}
use Rattle.nest_model.specs.BuilderJoinLaws.{list_joined}
use Rattle.nest_model.specs.BuilderAddRowLaws.{list_row_added, list_rows_added}
use Rattle.nest_model.specs.BuilderRefusals.{item_refusal}
use Rattle.nest_model.specs.BuilderRefusalLaws.{within, below, list_none, list_past}
use Rattle.nest_model.specs.BuilderReading.{complete, begun, ReadsList, Reading, Consumed, Refused, ConsumedAll, RefusedSome}
use Rattle.nest_model.specs.Checks.{Pass, FailFirst, FailsOr, check, done, is_past, largest_length}

-- a null in place of a list
pub none_refused : {U T A : Type 0} (how : Reading U T A) (item : Option U) (t : BuilderTree) (e : Error)
    → item ≡ None → (e ≡ Memory alloc_error) ⊎ (item_refusal items.null t ≡ Some e) → Refused (ReadsList how) item t e
none_refused how item t e h (inl m) = inl m
none_refused how item t e h (inr k) = rw h (inr (complete items.null, refl, k))

pub none_took : {U T A : Type 0} (how : Reading U T A) (item : Option U) (t u : BuilderTree)
    → item ≡ None → Accepted items.null t u → item_refusal items.null t ≡ None → Consumed (ReadsList how) item t u
none_took how item t u h a k = rw h (items.null, refl, a, k)

-- the complete list was read and is refused
pub row_refused : {U T A : Type 0} (how : Reading U T A) (item : Option U) (u : U) (t c d : BuilderTree) (e : Error)
    → item ≡ Some u → (q : ConsumedAll how u c d) → item_refusal (items.list_of (seal_items q.0)) t ≡ Some e → Refused (ReadsList how) item t e
row_refused how item u t c d e h q k = rw h (inr (complete (items.list_of (seal_items q.0)), inl (q.0, q.1, refl), k))

-- the child refuses an item of the list
pub item_refused : {U T A : Type 0} (how : Reading U T A) (item : Option U) (u : U) (large : Bool) (k : TypeTree) (rows : List Row) (c : BuilderTree) (e : Error)
    → item ≡ Some u → RefusedSome how u c e → Refused (ReadsList how) item (list large k rows c) e
item_refused how item u large k rows c e h (inl m) = inl m
item_refused how item u large k rows c e h (inr q) = rw h (inr (begun q.0 q.1, inr (q.0, q.1, q.2, refl), q.3))

-- the row exceeds a limit
pub place_refused : {U T A : Type 0} (how : Reading U T A) (item : Option U) (u : U) (large wide : Bool) (k : TypeTree) (rows : List Row) (c d : BuilderTree) (e : Error) (end : ℕ)
    → item ≡ Some u → ConsumedAll how u c d → end ≡ builder_len d → wide ≡ large → (e ≡ Memory alloc_error) ⊎ ((e ≡ Overflow) × (largest_offset wide < end))
    → Refused (ReadsList how) item (list large k rows c) e
place_refused how item u large wide k rows c d e end h q n m (inl p) = inl p
place_refused how item u large wide k rows c d e end h q n m (inr p) =
    row_refused how item u (list large k rows c) c d e h q
    (list_past large k rows c d q.0 q.3 q.2 (omega (arith, n, ap largest_offset m, p.1)) ∙ ap Some (sym p.0))

-- the complete list was accepted
pub row_took : {U T A : Type 0} (how : Reading U T A) (item : Option U) (u : U) (large wide : Bool) (k : TypeTree) (rows new : List Row) (c d : BuilderTree) (end : ℕ)
    → item ≡ Some u → ConsumedAll how u c d → end ≡ builder_len d → wide ≡ large → new ≡ rows ++ row_ending true end ∷ [] → (length rows + 1 ≤ largest_length) × (end ≤ largest_offset wide) → IsComplete (list large k rows c)
    → Consumed (ReadsList how) item (list large k rows c) (list large k new d)
row_took how item u large wide k rows new c d end h q n m f l w =
    rw h (items.list_of (seal_items q.0), inl (q.0, q.1, refl), list_accepted large k rows new c d q.0 end n f w q.2, list_none large k rows c d q.0 q.3 q.2 l.0 (omega (arith, n, ap largest_offset m, l.1)))

-- a null row
pub null_unrefused : (large : Bool) (k : TypeTree) (rows : List Row) (c : BuilderTree) → length rows + 1 ≤ largest_length → item_refusal items.null (list large k rows c) ≡ None
null_unrefused large k rows c l = rw (within (length rows + 1) l) refl

pub null_cause : (large wide : Bool) (k : TypeTree) (rows : List Row) (c : BuilderTree) (end : ℕ) (e : Error) → end ≤ largest_offset wide → (e ≡ Memory alloc_error) ⊎ ((e ≡ Overflow) × (largest_offset wide < end))
    → (e ≡ Memory alloc_error) ⊎ (item_refusal items.null (list large k rows c) ≡ Some e)
null_cause large wide k rows c end e l (inl m) = inl m
null_cause large wide k rows c end e l (inr p) = absurd (omega (arith, l, p.1))

-- an added row
pub row_told : (large : Bool) (k : TypeTree) (rows new : List Row) (c : BuilderTree) (end : ℕ) → end ≡ builder_len c → new ≡ rows ++ row_ending true end ∷ [] → HasCompleteChildren (list large k rows c) → CoversRows k rows c
    → RowAdded true (list large k rows c) (list large k new c)
row_told large k rows new c end n f w t = list_row_added true large k rows new c end n f (w.0, t.0, t.1, w.1)

-- rows by their lengths
pub lengths_told : (large : Bool) (k : TypeTree) (rows new : List Row) (c : BuilderTree) (ns : List (Option ℕ)) → new ≡ rows ++ rows_of_lengths (end_from 0 rows) ns → HasCompleteChildren (list large k rows c) → CoversRows k rows c
    → end_from 0 rows + items_of_lengths ns ≡ builder_len c → RowsAdded ns (list large k rows c) (list large k new c)
lengths_told large k rows new c ns f w t n = list_rows_added ns large k rows new c f n (w.0, t.0, t.1, w.1)

pub lengths_pass : (large wide : Bool) (k : TypeTree) (rows : List Row) (c : BuilderTree) (ns : List (Option ℕ)) → wide ≡ large → (length rows + length ns ≤ largest_length) × (end_from 0 rows + items_of_lengths ns ≤ largest_offset wide)
    → CoversRows k rows c → end_from 0 rows + items_of_lengths ns ≡ builder_len c → Pass (lengths_checks ns (list large k rows c))
lengths_pass large wide k rows c ns m l t n = (t, (n, ((l.0, omega (arith, l.1, n, ap largest_offset m)), tt)))

pub lengths_cause : (large wide : Bool) (k : TypeTree) (rows : List Row) (c : BuilderTree) (ns : List (Option ℕ)) (e : Error) → wide ≡ large → CoversRows k rows c → end_from 0 rows + items_of_lengths ns ≡ builder_len c
    → (e ≡ Memory alloc_error) ⊎ ((e ≡ Overflow) × (largest_offset wide < end_from 0 rows + items_of_lengths ns)) → (e ≡ Memory alloc_error) ⊎ FailFirst e (lengths_checks ns (list large k rows c))
lengths_cause large wide k rows c ns e m t n (inl p) = inl p
lengths_cause large wide k rows c ns e m t n (inr p) = rw p.0 (inr (t, (n, λ q. omega (arith, p.1, q.1, n, ap largest_offset m))))

pub lengths_not_covered : (large : Bool) (k : TypeTree) (rows : List Row) (c : BuilderTree) (ns : List (Option ℕ)) → (CoversRows k rows c → ⊥) → FailFirst (InvalidArgumentError Incomplete) (lengths_checks ns (list large k rows c))
lengths_not_covered large k rows c ns h = h

pub other_end : (large : Bool) (k : TypeTree) (rows : List Row) (c : BuilderTree) (ns : List (Option ℕ)) → CoversRows k rows c → (end_from 0 rows + items_of_lengths ns ≡ builder_len c → ⊥) → FailFirst (InvalidArgumentError LengthsSum) (lengths_checks ns (list large k rows c))
other_end large k rows c ns t h = (t, h)

-- joined rows
or-below : (a b : Bool) → (a || b) ≡ false → b ≡ false
or-below true b h = absurd cc
or-below false b h = h

or-over : (b c : Bool) → ((b || true) || c) ≡ true
or-over true c = refl
or-over false c = refl

pub fails-below : (e : Error) (E F : Error) (P Q R S : Type 0) → P → Q → (S → R) → FailFirst e (check E P (check F R done)) → FailFirst e (check E Q (check F S done))
fails-below e E F P Q R S p q f h = go (_) (_) h
  where
    go : (a b : Bool) → FailsOr a P (FailsOr b R ⊥) → FailsOr a Q (FailsOr b S ⊥)
    go true b k = absurd (k p)
    go false true k = (q, λ s. k.1 (f s))
    go false false k = absurd (k.1.1)

pub joined_type : (c d e : BuilderTree) → Joined d c e → builder_type e ≡ builder_type c
joined_type c d e h = sym (type-cut e (builder_len c)) ∙ ap builder_type h.undo

pub child_join_refused : (large : Bool) (k m : TypeTree) (rows more : List Row) (c d : BuilderTree) (e : Error) → k ≡ m → builder_type c ≡ builder_type d → (e ≡ Memory alloc_error) ⊎ FailFirst e (join_checks c d)
    → (e ≡ Memory alloc_error) ⊎ FailFirst e (join_checks (list large k rows c) (list large m more d))
child_join_refused large k m rows more c d e h t (inl p) = inl p
child_join_refused large k m rows more c d e h t (inr p) =
    inr (fails-below e (InvalidArgumentError ItemType) Overflow (builder_type c ≡ builder_type d) (k ≡ m) (join_passes c d ≡ false) (join_passes (list large k rows c) (list large m more d) ≡ false) t h
    (or-below _ (join_passes c d)) p)

pub rows_join_refused : (large wide : Bool) (k m : TypeTree) (rows more : List Row) (c d : BuilderTree) (e : Error) → k ≡ m → wide ≡ large → (e ≡ Memory alloc_error) ⊎ ((e ≡ Overflow) × (largest_offset wide < end_from 0 rows + end_from 0 more))
    → (e ≡ Memory alloc_error) ⊎ FailFirst e (join_checks (list large k rows c) (list large m more d))
rows_join_refused large wide k m rows more c d e h w (inl p) = inl p
rows_join_refused large wide k m rows more c d e h w (inr p) =
    let past : ltb (largest_offset large) (end_from 0 rows + end_from 0 more) ≡ true = lt-ltb (largest_offset large) (end_from 0 rows + end_from 0 more) (omega (arith, p.1, ap largest_offset w)) in
    let all : join_passes (list large k rows c) (list large m more d) ≡ true
    = ap (λ b. (is_past (length rows + length more) || b) || join_passes c d) past ∙ or-over (is_past (length rows + length more)) (join_passes c d) in
    rw p.0 (inr (h, λ q. let u : true ≡ false = sym all ∙ q in cc))

pub rows_joined : (large : Bool) (k m : TypeTree) (rows more new : List Row) (c d e : BuilderTree) → k ≡ m → new ≡ rows ++ moved (end_from 0 rows) more → IsComplete (list large k rows c) → IsComplete (list large m more d)
    → Joined d c e → Joined (list large m more d) (list large k rows c) (list large k new e)
rows_joined large k m rows more new c d e h f w v j =
    rw (← h) (list_joined large k rows more new c d e f w (rw h v) (joined_type c d e j) j)

pub join_unrefused : (large wide : Bool) (k m : TypeTree) (rows more : List Row) (c d : BuilderTree) → k ≡ m → wide ≡ large → (length rows + length more ≤ largest_length) × (end_from 0 rows + end_from 0 more ≤ largest_offset wide)
    → Pass (join_checks c d) → Pass (join_checks (list large k rows c) (list large m more d))
join_unrefused large wide k m rows more c d h w l p =
    (h, (rw (within (length rows + length more) l.0, below (suc (largest_offset large)) (end_from 0 rows + end_from 0 more) (omega (arith, l.1, ap largest_offset w)), p.1.0) refl, tt))

-- a frozen child has one slot per row
pub child_count : (a : Layout) (c : BuilderTree) → slots_of a ≡ own_slots c → len a ≡ builder_len c
child_count a c e = sym (slots-length a) ∙ ap length e ∙ own-length c

-- the items of one length, and of one more
pub row_list-one : (x : Option ℕ) → items_of_lengths (x ∷ []) ≡ unwrap_or x 0
row_list-one None = refl
row_list-one (Some n) = omega arith

pub row_list-next : (i : ℕ) (ns : List (Option ℕ)) → i < length ns → items_of_lengths (take (i + 1) ns) ≡ items_of_lengths (take i ns) + unwrap_or (get_or ns i None) 0
row_list-next i ns l = ap items_of_lengths (take_more ns i None l) ∙ row_list-append (take i ns) (get_or ns i None ∷ []) ∙ ap (λ n. items_of_lengths (take i ns) + n) (row_list-one (get_or ns i None))
