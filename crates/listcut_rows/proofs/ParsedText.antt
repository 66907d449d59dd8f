-- Parsed rows have the given text.
use Rattle.std.proofs.Common.{◌≡◌, ℕ, zero, suc, ◌+◌, ◌-◌, ◌^◌, ◌<◌, ◌≤◌, Bool, true, false, cond, not, eqb, ltb, List, [], ◌∷◌, ◌++◌, length, take, get_or, map, Option, Some, None, Result, Ok, Err, ℤ, pos, neg_ℤ, refl, sym, ap, subst, ◌∙◌, arith, option_map, inl, inr, zero-add, lit≤, lit<}
use Rattle.std.specs.Prelude.{codes, bytes_eq, decimal, FitsSigned, option_and_then, ◌⊎◌}
use Rattle.std.specs.Int.{w64}
use Rattle.std.specs.Fmt.{signed_decimal}
use Rattle.std.specs.Str.Parse.{digits_value}
use Rattle.std.specs.List.{slice_split, join_with_byte, flat_map, AllByRecursion, onto_first}
use Rattle.std.proofs.lemmas.Bool.{and_parts, or_cases, ltb-true, leb-true, eqb-true, cond-true, cond-false, eq-eqb, cases_Bool, both_ways}
use Rattle.std.proofs.lemmas.Option.{cond_some, same_Some, none-some, option_and_then_some}
use Rattle.std.proofs.lemmas.Slice.Eq.{bytes_eq-Decides}
use Rattle.std.proofs.lemmas.Fmt.{decimal-digits_value, decimal_digit}
use Rattle.std.proofs.lemmas.List.{take_all, nil_from_length, take_more}
use Rattle.std.proofs.lemmas.List.Splits.{join_with_byte-slice_split}
use Rattle.std.proofs.lemmas.List.Sums.{sum_by-append}
use Rattle.std.proofs.lemmas.List.Concat.{flat_map-cons}
use Rattle.nest_model.specs.Slot as slots
use Rattle.nest_model.specs.Slot.{Slot, Slots, seal, unseal, no_slots, more_slots}
use Rattle.listcut_rows.specs.Rows.{list_row_len, item_count, IsItem, IsRow, AreRows}
use Rattle.listcut_rows.proofs.Sealed.{unseal-seal}
use Rattle.listcut_rows.specs.Grammar.{is_decimal, number_below, parsed_number, parsed_item, parsed_items, all_of, bracketed, parsed_row, lines_of, parsed_rows_after, parsed_rows, prepend_row}
use Rattle.listcut_rows.specs.RowText.{item_text, row_text, rows_text, IsRowsText}
use Rattle.listcut_rows.proofs.Digits.{own}
use Rattle.listcut_rows.proofs.Separated.{is_byte}

-- ---- conditionals and maps

pub selected : {X : Type 0} (b : Bool) (x y z : X) → cond b x y ≡ z → ((b ≡ true) × (x ≡ z)) ⊎ ((b ≡ false) × (y ≡ z))
selected true x y z e = inl (refl, e)
selected false x y z e = inr (refl, e)

mapped : {X Y : Type 0} (f : X → Y) (o : Option X) (y : Y) → option_map f o ≡ Some y → (x : X) × (o ≡ Some x) × (f x ≡ y)
mapped f None y e = absurd cc
mapped f (Some x) y e = (x, refl, same_Some _ _ e)

-- ---- numbers

whole_text : (ds : List ℕ) → is_decimal ds ≡ true → digits_value 10 ds < 2 ^ 64 → decimal (digits_value 10 ds) ≡ ds
whole_text [] e small = absurd cc
whole_text (c ∷ cs) e small =
    let parts = and_parts _ _ e in
    let lone : c ≡ 48 → length (c ∷ cs) ≡ 1 = λ zero_first. elim (or_cases _ _ parts.1) [
      | inl other ↦ absurd (both_ways _ (ap not (eq-eqb c 48 zero_first)) other)
      | inr alone ↦ ap suc (eqb-true _ _ alone)
    ] in
    decimal-digits_value own (c ∷ cs) parts.0 (omega arith) lone small

below_takes : (limit : ℕ) (ds : List ℕ) (n : ℕ) → limit ≤ 2 ^ 64 → number_below limit ds ≡ Some n → (n < limit) × (decimal n ≡ ds)
below_takes limit ds n few e =
    let c = cond_some _ _ _ e in
    let parts = and_parts _ _ c.0 in
    let lt : digits_value 10 ds < limit = ltb-true _ _ parts.1 in
    (omega (arith, c.1), ap decimal (sym c.1) ∙ whole_text ds parts.0 (omega arith))

abbrev NumberTakes : List ℕ → ℤ → Type 0
NumberTakes bs z = FitsSigned w64 z × (signed_decimal z ≡ bs)

minus_takes : (cs : List ℕ) (n : ℕ) → bytes_eq cs (codes "0") ≡ false → n < 2 ^ 63 + 1 → decimal n ≡ cs → NumberTakes (45 ∷ cs) (neg_ℤ (pos n))
minus_takes cs zero other lt e = absurd (both_ways _ other (ap (λ ds. bytes_eq ds (codes "0")) (sym e) ∙ ap (λ ds. bytes_eq ds (codes "0")) (decimal_digit 0 (omega arith))))
minus_takes cs (suc n) other lt e = (record { sfits = omega arith }, ap (λ ds. 45 ∷ ds) e)

number_takes : (bs : List ℕ) (z : ℤ) → parsed_number bs ≡ Some z → NumberTakes bs z
number_takes [] z e = absurd cc
number_takes (c ∷ cs) z e =
    elim (selected (eqb c 45) _ _ (Some z) e) [
      | inl minus ↦
          elim (selected (bytes_eq cs (codes "0")) _ _ (Some z) minus.1) [
            | inl zero_is ↦ absurd (none-some z zero_is.1)
            | inr other ↦
                let m = mapped (λ n. neg_ℤ (pos n)) (number_below (2 ^ 63 + 1) cs) z other.1 in
                let t = below_takes (2 ^ 63 + 1) cs m.0 (lit≤ tt) m.1 in
                let taken = minus_takes cs m.0 other.0 t.0 t.1 in
                let c_is : 45 ≡ c = sym (eqb-true c 45 minus.0) in
                subst (NumberTakes (c ∷ cs)) m.2 (subst (λ (b : ℕ). NumberTakes (b ∷ cs) (neg_ℤ (pos m.0))) c_is taken)
          ]
      | inr plain ↦
          let m = mapped pos (number_below (2 ^ 63) (c ∷ cs)) z plain.1 in
          let t = below_takes (2 ^ 63) (c ∷ cs) m.0 (lit≤ tt) m.1 in
          subst (NumberTakes (c ∷ cs)) m.2 (record { sfits = t.0 }, t.1)
    ]

-- ---- items

abbrev ItemTakes : List ℕ → Slot → Type 0
ItemTakes bs item = IsItem item × (item_text item ≡ bs)

abbrev number_slot : ℤ → Slot
number_slot z = slots.number (z ∷ [])

some_takes : (bs : List ℕ) (z : ℤ) → NumberTakes bs z → ItemTakes bs (number_slot z)
some_takes bs z h = h

item_takes : (bs : List ℕ) (item : Slot) → parsed_item bs ≡ Some item → ItemTakes bs item
item_takes bs item e =
    elim (selected (bytes_eq bs (codes "null")) _ _ (Some item) e) [
      | inl null ↦ subst (ItemTakes bs) (same_Some _ _ null.1) (tt, sym ((bytes_eq-Decides bs (codes "null")).0 null.0))
      | inr number ↦
          let m = mapped number_slot (parsed_number bs) item number.1 in
          subst (ItemTakes bs) m.2 (some_takes bs m.0 (number_takes bs m.0 m.1))
    ]

abbrev Opened : {X : Type 0} → Option X → List (Option X) → List X → Type 0
Opened {X} o os xs = (x : X) × (rest : List X) × (o ≡ Some x) × (all_of os ≡ Some rest) × (x ∷ rest ≡ xs)

opened : {X : Type 0} (o : Option X) (os : List (Option X)) (xs : List X) → all_of (o ∷ os) ≡ Some xs → Opened o os xs
opened None os xs e = absurd cc
opened (Some x) os xs e = let m = mapped (λ rest. x ∷ rest) (all_of os) xs e in (x, m.0, refl, m.1, m.2)

abbrev AllTake : List (List ℕ) → List Slot → Type 0
AllTake pieces items = AllByRecursion IsItem items × (map item_text items ≡ pieces)

all_take : (pieces : List (List ℕ)) (items : List Slot) → all_of (map parsed_item pieces) ≡ Some items → AllTake pieces items
all_take [] items e = subst (AllTake []) (same_Some _ _ e) (tt, refl)
all_take (piece ∷ pieces) items e =
    let o = opened (parsed_item piece) (map parsed_item pieces) items e in
    let first = item_takes piece o.0 o.2 in
    let others = all_take pieces o.1 o.3 in
    subst (AllTake (piece ∷ pieces)) o.4 ((first.0, others.0), ap (λ t. t ∷ map item_text o.1) first.1 ∙ ap (λ ts. piece ∷ ts) others.1)

abbrev ItemsTake : List ℕ → List Slot → Type 0
ItemsTake bs items = AllByRecursion IsItem items × (join_with_byte 44 (map item_text items) ≡ bs)

items_take : (bs : List ℕ) (items : List Slot) → parsed_items bs ≡ Some items → ItemsTake bs items
items_take bs items e =
    elim (selected (eqb (length bs) 0) _ _ (Some items) e) [
      | inl none ↦ subst (ItemsTake bs) (same_Some _ _ none.1) (tt, sym (nil_from_length bs (eqb-true _ _ none.0)))
      | inr some ↦
          let t = all_take (slice_split (is_byte 44) bs) items some.1 in
          (t.0, ap (join_with_byte 44) t.1 ∙ join_with_byte-slice_split 44 bs)
    ]

-- ---- rows

last_byte : (x : ℕ) (xs : List ℕ) → 0 < length xs → get_or xs (length xs - 1) 0 ≡ x → take (length xs - 1) xs ++ x ∷ [] ≡ xs
last_byte x xs long e =
    let n = length xs - 1 in
    let full : suc n ≡ length xs = omega arith in
    ap (λ y. take n xs ++ y ∷ []) (sym e) ∙ sym (take_more xs n 0 (omega arith)) ∙ take_all (n + 1) xs (omega arith)

bracketed_takes : (line inside : List ℕ) → bracketed line ≡ Some inside → 91 ∷ inside ++ 93 ∷ [] ≡ line
bracketed_takes [] inside e = absurd cc
bracketed_takes (b ∷ bs) inside e =
    let c = cond_some _ _ _ e in
    let parts = and_parts _ _ c.0 in
    let ends = and_parts _ _ parts.1 in
    let long : 2 ≤ length (b ∷ bs) = leb-true _ _ parts.0 in
    let first : 91 ≡ b = sym (eqb-true _ _ ends.0) in
    let last : get_or (b ∷ bs) (length (b ∷ bs) - 1) 0 ≡ 93 = eqb-true _ _ ends.1 in
    let place : length (b ∷ bs) - 1 ≡ suc (length bs - 1) = omega arith in
    let last_is : get_or bs (length bs - 1) 0 ≡ 93 = ap (λ n. get_or (b ∷ bs) n 0) (sym place) ∙ last in
    let count : length (b ∷ bs) - 2 ≡ length bs - 1 = omega arith in
    let inside_is : inside ≡ take (length bs - 1) bs = sym c.1 ∙ ap (λ n. take n bs) count in
    ap (λ l. 91 ∷ l ++ 93 ∷ []) inside_is ∙ ap (λ l. 91 ∷ l) (last_byte 93 bs (omega arith) last_is) ∙ ap (λ x. x ∷ bs) first

abbrev RowTakes : List ℕ → Slot → Type 0
RowTakes line row = IsRow row × (row_text row ≡ line)

abbrev list_slot : List Slot → Slot
list_slot items = slots.list (seal items)

list_takes : (line : List ℕ) (items : List Slot) → AllByRecursion IsItem items → 91 ∷ join_with_byte 44 (map item_text items) ++ 93 ∷ [] ≡ line → RowTakes line (list_slot items)
list_takes line items fits e =
    let back = unseal-seal items in
    (subst (AllByRecursion IsItem) (sym back) fits, ap (λ ss. 91 ∷ join_with_byte 44 (map item_text ss) ++ 93 ∷ []) back ∙ e)

pub row_takes : (line : List ℕ) (row : Slot) → parsed_row line ≡ Some row → RowTakes line row
row_takes line row e =
    elim (selected (bytes_eq line (codes "null")) _ _ (Some row) e) [
      | inl null ↦ subst (RowTakes line) (same_Some _ _ null.1) (tt, sym ((bytes_eq-Decides line (codes "null")).0 null.0))
      | inr list ↦
          let m = mapped list_slot (option_and_then parsed_items (bracketed line)) row list.1 in
          option_and_then_some parsed_items (bracketed line) m.0 m.1 (λ inside found read.
          let t = items_take inside m.0 read in
          subst (RowTakes line) m.2 (list_takes line m.0 t.0 (ap (λ l. 91 ∷ l ++ 93 ∷ []) t.1 ∙ bracketed_takes line inside found)))
    ]

-- ---- lines

pub cases_row : (o : Option Slot) → (o ≡ None) ⊎ ((row : Slot) × (o ≡ Some row))
cases_row None = inl refl
cases_row (Some row) = inr (row, refl)

onto_ok : (row : Slot) (reading : Result (List Slot) ℕ) (rows : List Slot) → prepend_row row reading ≡ Ok rows → (rest : List Slot) × (reading ≡ Ok rest) × (row ∷ rest ≡ rows)
onto_ok row (Ok rest) rows e = (rest, refl, cc)
onto_ok row (Err line) rows e = absurd cc

abbrev LinesTake : ℕ → List (List ℕ) → List Slot → Type 0
LinesTake items lines rows = AllByRecursion IsRow rows × (items + item_count rows < 2 ^ 31) × (map row_text rows ≡ lines)

ok_rows : (xs ys : List Slot) → ◌≡◌ {A = Result (List Slot) ℕ} (Ok xs) (Ok ys) → xs ≡ ys
ok_rows xs ys e = cc

lines_take : (above items : ℕ) (lines : List (List ℕ)) (rows : List Slot) → items < 2 ^ 31 → parsed_rows_after above items lines ≡ Ok rows → LinesTake items lines rows
unfolding parsed_rows_after
lines_take above items [] rows few e = subst (LinesTake items []) (ok_rows [] rows e) (tt, omega arith, refl)
lines_take above items (line ∷ lines) rows few e =
    elim (cases_row (parsed_row line)) [
      | inl none ↦
          let bad : parsed_rows_after above items (line ∷ lines) ≡ Err (above + 1) = rw (none, parsed_rows_after) refl in
          absurd (let clash : Err (above + 1) ≡ Ok rows = sym bad ∙ e in cc)
      | inr found ↦
          let row = found.0 in
          let step : parsed_rows_after above items (line ∷ lines) ≡ cond (ltb (items + list_row_len row) (2 ^ 31)) (prepend_row row (parsed_rows_after (above + 1) (items + list_row_len row) lines)) (Err (above + 1)) = rw (found.1, parsed_rows_after) refl in
          elim (selected (ltb (items + list_row_len row) (2 ^ 31)) (prepend_row row (parsed_rows_after (above + 1) (items + list_row_len row) lines)) (Err (above + 1)) (Ok rows) (sym step ∙ e)) [
            | inl within ↦
                let small : items + list_row_len row < 2 ^ 31 = ltb-true _ _ within.0 in
                let o = onto_ok row (parsed_rows_after (above + 1) (items + list_row_len row) lines) rows within.1 in
                let first = row_takes line row found.1 in
                let others = lines_take (above + 1) (items + list_row_len row) lines o.0 small o.1 in
                let sum : item_count (row ∷ o.0) ≡ list_row_len row + item_count o.0 = sum_by-append list_row_len (row ∷ []) o.0 ∙ ap (λ n. n + item_count o.0) (zero-add (list_row_len row)) in
                subst (LinesTake items (line ∷ lines)) o.2 ((first.0, others.0), omega (arith, others.1), ap (λ t. t ∷ map row_text o.0) first.1 ∙ ap (λ ts. line ∷ ts) others.2)
            | inr many ↦ absurd (let clash : Err (above + 1) ≡ Ok rows = many.1 in cc)
          ]
    ]

-- the lines with their line feeds
abbrev ended : List (List ℕ) → List ℕ
ended lines = flat_map (λ line. line ++ 10 ∷ []) lines

onto_ended : (b : ℕ) (line : List ℕ) (lines : List (List ℕ)) → ended (onto_first b (line ∷ lines)) ≡ b ∷ ended (line ∷ lines)
onto_ended b line lines = flat_map-cons (λ l. l ++ 10 ∷ []) (b ∷ line) lines ∙ ap (λ l. b ∷ l) (sym (flat_map-cons (λ l. l ++ 10 ∷ []) line lines))

-- the bytes, or the bytes with a line feed
abbrev pub Ends : List ℕ → List ℕ → Type 0
Ends bytes whole = (whole ≡ bytes) ⊎ (whole ≡ bytes ++ 10 ∷ [])

onto_back : (b : ℕ) (bs : List ℕ) (lines : List (List ℕ)) → Ends bs (ended lines) → Ends (b ∷ bs) (ended (onto_first b lines))
onto_back b bs [] (inl e) = inr (ap (λ l. b ∷ l ++ 10 ∷ []) e)
onto_back b [] [] (inr e) = absurd cc
onto_back b (x ∷ bs) [] (inr e) = absurd cc
onto_back b bs (line ∷ lines) (inl e) = inl (onto_ended b line lines ∙ ap (λ l. b ∷ l) e)
onto_back b bs (line ∷ lines) (inr e) = inr (onto_ended b line lines ∙ ap (λ l. b ∷ l) e)

feed_back : (bs : List ℕ) (lines : List (List ℕ)) → Ends bs (ended lines) → Ends (10 ∷ bs) (ended ([] ∷ lines))
feed_back bs lines (inl e) = inl (flat_map-cons (λ l. l ++ 10 ∷ []) [] lines ∙ ap (λ l. 10 ∷ l) e)
feed_back bs lines (inr e) = inr (flat_map-cons (λ l. l ++ 10 ∷ []) [] lines ∙ ap (λ l. 10 ∷ l) e)

lines_back : (bytes : List ℕ) → Ends bytes (ended (lines_of bytes))
lines_back [] = inl refl
lines_back (b ∷ bs) =
    elim (cases_Bool (eqb b 10)) [
      | inl feed ↦
          let at : lines_of (b ∷ bs) ≡ [] ∷ lines_of bs = cond-true _ _ _ feed in
          subst (λ (x : ℕ). Ends (x ∷ bs) (ended (lines_of (b ∷ bs)))) (sym (eqb-true b 10 feed)) (subst (λ l. Ends (10 ∷ bs) (ended l)) (sym at) (feed_back bs (lines_of bs) (lines_back bs)))
      | inr other ↦
          let at : lines_of (b ∷ bs) ≡ onto_first b (lines_of bs) = cond-false _ _ _ other in
          subst (λ l. Ends (b ∷ bs) (ended l)) (sym at) (onto_back b bs (lines_of bs) (lines_back bs))
    ]

ended_text : (rows : List Slot) → ended (map row_text rows) ≡ rows_text rows
ended_text [] = refl
ended_text (row ∷ rows) = flat_map-cons (λ l. l ++ 10 ∷ []) (row_text row) (map row_text rows) ∙ ap (λ l. (row_text row ++ 10 ∷ []) ++ l) (ended_text rows) ∙ sym (flat_map-cons (λ r. row_text r ++ 10 ∷ []) row rows)

pub bytes_spelled : (bytes : List ℕ) (rows : List Slot) → parsed_rows bytes ≡ Ok rows → AreRows rows × IsRowsText bytes rows
bytes_spelled bytes rows e =
    let t = lines_take 0 0 (lines_of bytes) rows (lit< tt) e in
    ((t.0, omega (arith, t.1)), subst (Ends bytes) (ap ended (sym t.2) ∙ ended_text rows) (lines_back bytes))
