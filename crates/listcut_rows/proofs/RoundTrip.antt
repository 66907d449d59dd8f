-- Rows are parsed from their text.
use Rattle.std.proofs.Common.{◌≡◌, ℕ, zero, suc, ◌+◌, ◌-◌, ◌^◌, ◌<◌, ◌≤◌, true, false, not, eqb, List, [], ◌∷◌, ◌++◌, length, get_or, map, Some, Ok, ℤ, pos, negsuc, refl, sym, ap, neg_ℤ, lit<, lit≤, zero-add, ◌∙◌, append_assoc, arith, rules, option_map, All, length-append}
use Rattle.std.specs.Prelude.{codes, bytes_eq, decimal, FitsSigned, option_and_then}
use Rattle.std.specs.Int.{w64, IsInRange}
use Rattle.std.specs.Fmt.{signed_decimal}
use Rattle.std.specs.List.{slice_split, join_with_byte, AllByRecursion}
use Rattle.std.proofs.lemmas.Bool.{and_from, or_left, lt-ltb, le-leb, cond-true, cond-false, eq-eqb, ne_eqb, and_left}
use Rattle.std.proofs.lemmas.Str.Parse.{IsDigitsTest}
use Rattle.std.proofs.lemmas.Fmt.{digits_decimal, digits_value-decimal, decimal_digit, first_decimal, decimal_nonempty}
use Rattle.std.proofs.lemmas.List.{get_or-append-add, take_at}
use Rattle.std.proofs.lemmas.List.Splits.{slice_split_none, slice_split_at}
use Rattle.std.proofs.lemmas.List.Elements.{All-from_recursion}
use Rattle.std.proofs.lemmas.List.Sums.{sum_by-append}
use Rattle.std.proofs.lemmas.List.Concat.{flat_map-cons}
use Rattle.nest_model.specs.Slot as slots
use Rattle.nest_model.specs.Slot.{Slot, Slots, seal, unseal, no_slots, more_slots}
use Rattle.listcut_rows.specs.Rows.{list_row_len, item_count, IsItem, IsRow, AreRows}
use Rattle.listcut_rows.specs.Grammar.{is_decimal, number_below, parsed_number, parsed_item, parsed_items, all_of, bracketed, parsed_row, lines_of, parsed_rows_after, parsed_rows, prepend_row}
use Rattle.listcut_rows.specs.RowText.{item_text, row_text, rows_text}
use Rattle.listcut_rows.proofs.Digits.{AreDigits, own}
use Rattle.listcut_rows.proofs.Sealed.{seal-unseal}
use Rattle.listcut_rows.proofs.Separated.{is_byte, line_at}

-- ---- bytes above a bound

abbrev pub Above : ℕ → List ℕ → Type 0
Above low bs = AllByRecursion (λ b. low < b) bs

above_append : (low : ℕ) (xs ys : List ℕ) → Above low xs → Above low ys → Above low (xs ++ ys)
above_append low [] ys p q = q
above_append low (x ∷ xs) ys p q = (p.0, above_append low xs ys p.1 q)

above_lower : (low high : ℕ) (xs : List ℕ) → low ≤ high → Above high xs → Above low xs
above_lower low high [] h p = tt
above_lower low high (x ∷ xs) h p = (omega (arith, p.0), above_lower low high xs h p.1)

above_other : (low : ℕ) (xs : List ℕ) → Above low xs → AllByRecursion (λ b. eqb b low ≡ false) xs
above_other low [] p = tt
above_other low (x ∷ xs) p = (ne_eqb x low (λ e. omega (arith, p.0)), above_other low xs p.1)

-- ---- numbers

digit_range : (c : ℕ) (cs : List ℕ) → AreDigits (c ∷ cs) → IsInRange 48 57 c × AreDigits cs
digit_range c cs h = (let t : IsDigitsTest AreDigits = search rules in t.parts c cs h)

digits_above : (ds : List ℕ) → AreDigits ds → Above 44 ds
digits_above [] h = tt
digits_above (c ∷ cs) h = let r = digit_range c cs h in (omega (arith, r.0.0), digits_above cs r.1)

nonzero_whole : (ds : List ℕ) → AreDigits ds → 48 < get_or ds 0 0 → is_decimal ds ≡ true
nonzero_whole [] h first = absurd (omega arith)
nonzero_whole (c ∷ cs) h first = and_from _ _ h (or_left _ _ (ap not (ne_eqb c 48 (λ e. omega arith))))

decimal_whole : (n : ℕ) → n < 2 ^ 64 → is_decimal (decimal n) ≡ true
decimal_whole zero small = ap is_decimal (decimal_digit 0 (omega arith))
decimal_whole (suc n) small = nonzero_whole (decimal (suc n)) (digits_decimal own (suc n) small) (first_decimal (suc n) (omega arith) small)

decimal_below : (limit n : ℕ) → n < limit → n < 2 ^ 64 → number_below limit (decimal n) ≡ Some n
decimal_below limit n lt small =
    let value = digits_value-decimal own n small in
    cond-true _ _ _ (and_from _ _ (decimal_whole n small) (lt-ltb _ _ (omega (arith, value)))) ∙ ap (λ (v : ℕ). Some v) value

-- digits are not negative
unsigned_number : (ds : List ℕ) → AreDigits ds → 0 < length ds → parsed_number ds ≡ option_map pos (number_below (2 ^ 63) ds)
unsigned_number [] h long = absurd (omega arith)
unsigned_number (c ∷ cs) h long = let r = digit_range c cs h in cond-false (eqb c 45) _ _ (ne_eqb c 45 (λ e. omega (arith, r.0.0)))

not_zero : (ds : List ℕ) → 48 < get_or ds 0 0 → bytes_eq ds (codes "0") ≡ false
not_zero [] first = refl
not_zero (c ∷ cs) first = and_left _ _ (ne_eqb c 48 (λ e. omega arith))

pub number_again : (z : ℤ) → FitsSigned w64 z → parsed_number (signed_decimal z) ≡ Some z
number_again (pos n) fits =
    let small : n < 2 ^ 63 = fits.sfits in
    unsigned_number (decimal n) (digits_decimal own n (omega arith)) (decimal_nonempty n (omega arith)) ∙ ap (option_map pos) (decimal_below (2 ^ 63) n small (omega arith))
number_again (negsuc n) fits =
    let small : n < 2 ^ 63 = fits.sfits in
    let first = first_decimal (suc n) (omega arith) (omega arith) in
    cond-false _ _ _ (not_zero (decimal (suc n)) first) ∙ ap (option_map (λ m. neg_ℤ (pos m))) (decimal_below (2 ^ 63 + 1) (suc n) (omega arith) (omega arith))

-- ---- items

-- the first byte of a number is a digit or `-`
number_first : (ds : List ℕ) → AreDigits ds → 0 < length ds → bytes_eq ds (codes "null") ≡ false
number_first [] h long = absurd (omega arith)
number_first (c ∷ cs) h long = let r = digit_range c cs h in and_left _ _ (ne_eqb c 110 (λ e. omega (arith, r.0.1)))

number_above : (z : ℤ) → FitsSigned w64 z → Above 44 (signed_decimal z)
number_above (pos n) fits = let small : n < 2 ^ 63 = fits.sfits in digits_above (decimal n) (digits_decimal own n (omega arith))
number_above (negsuc n) fits = let small : n < 2 ^ 63 = fits.sfits in (lit< tt, digits_above (decimal (suc n)) (digits_decimal own (suc n) (omega arith)))

number_nonempty : (z : ℤ) → FitsSigned w64 z → 0 < length (signed_decimal z)
number_nonempty (pos n) fits = let small : n < 2 ^ 63 = fits.sfits in decimal_nonempty n (omega arith)
number_nonempty (negsuc n) fits = omega arith

item_not_null : (z : ℤ) → FitsSigned w64 z → bytes_eq (signed_decimal z) (codes "null") ≡ false
item_not_null (pos n) fits = let small : n < 2 ^ 63 = fits.sfits in number_first (decimal n) (digits_decimal own n (omega arith)) (decimal_nonempty n (omega arith))
item_not_null (negsuc n) fits = refl

item_above : (item : Slot) → IsItem item → Above 44 (item_text item)
item_above slots.null fits = (lit< tt, (lit< tt, (lit< tt, (lit< tt, tt))))
item_above (slots.number (z ∷ [])) fits = number_above z fits
item_above other fits = absurd fits

item_nonempty : (item : Slot) → IsItem item → 0 < length (item_text item)
item_nonempty slots.null fits = omega arith
item_nonempty (slots.number (z ∷ [])) fits = number_nonempty z fits
item_nonempty other fits = absurd fits

pub item_again : (item : Slot) → IsItem item → parsed_item (item_text item) ≡ Some item
item_again slots.null fits = refl
item_again (slots.number (z ∷ [])) fits = cond-false _ _ _ (item_not_null z fits) ∙ ap (option_map (λ number. slots.number (number ∷ []))) (number_again z fits)
item_again other fits = absurd fits

all_again : (items : List Slot) → AllByRecursion IsItem items → all_of (map parsed_item (map item_text items)) ≡ Some items
all_again [] fits = refl
all_again (item ∷ items) fits =
    ap (λ o. all_of (o ∷ map parsed_item (map item_text items))) (item_again item fits.0) ∙ ap (option_map (λ xs. item ∷ xs)) (all_again items fits.1)

no_comma : (item : Slot) → IsItem item → All (λ b. is_byte 44 b ≡ false) (item_text item)
no_comma item fits = All-from_recursion (λ b. is_byte 44 b ≡ false) (item_text item) (above_other 44 (item_text item) (item_above item fits))

pieces_again : (item : Slot) (items : List Slot) → IsItem item → AllByRecursion IsItem items → slice_split (is_byte 44) (join_with_byte 44 (map item_text (item ∷ items))) ≡ map item_text (item ∷ items)
pieces_again item [] fit fits = slice_split_none (is_byte 44) (item_text item) (no_comma item fit)
pieces_again item (x ∷ xs) fit fits =
    slice_split_at (is_byte 44) (item_text item) 44 (join_with_byte 44 (map item_text (x ∷ xs))) (no_comma item fit) refl
    ∙ ap (λ l. item_text item ∷ l) (pieces_again x xs fits.0 fits.1)

joined_nonempty : (item : Slot) (items : List Slot) → IsItem item → 0 < length (join_with_byte 44 (map item_text (item ∷ items)))
joined_nonempty item [] fit = item_nonempty item fit
joined_nonempty item (x ∷ xs) fit = omega (arith, item_nonempty item fit, length-append (item_text item) (44 ∷ join_with_byte 44 (map item_text (x ∷ xs))))

items_again : (items : List Slot) → AllByRecursion IsItem items → parsed_items (join_with_byte 44 (map item_text items)) ≡ Some items
items_again [] fits = refl
items_again (item ∷ items) fits =
    let inside = join_with_byte 44 (map item_text (item ∷ items)) in
    let some : length inside ≡ 0 → ⊥ = λ e. omega (arith, joined_nonempty item items fits.0) in
    cond-false _ _ _ (ne_eqb (length inside) 0 some)
    ∙ ap (λ pieces. all_of (map parsed_item pieces)) (pieces_again item items fits.0 fits.1) ∙ all_again (item ∷ items) fits

-- ---- rows

brackets_again : (inside : List ℕ) → bracketed (91 ∷ inside ++ 93 ∷ []) ≡ Some inside
brackets_again inside =
    let line = 91 ∷ inside ++ 93 ∷ [] in
    let long : length line ≡ length inside + 2 = omega (arith, length-append inside (93 ∷ [])) in
    let place : length line - 1 ≡ suc (length inside + 0) = omega (arith, long) in
    let last : get_or line (length line - 1) 0 ≡ 93 = ap (λ n. get_or line n 0) place ∙ get_or-append-add inside (93 ∷ []) 0 0 in
    let short : length line - 2 ≡ length inside = omega (arith, long) in
    cond-true _ _ _ (and_from _ _ (le-leb 2 (length line) (omega (arith, long))) (eq-eqb _ _ last))
    ∙ ap (λ (l : List ℕ). Some l) (take_at inside (93 ∷ []) (length line - 2) (sym short))

abbrev list_slot : List Slot → Slot
list_slot items = slots.list (seal items)

pub row_again : (row : Slot) → IsRow row → parsed_row (row_text row) ≡ Some row
row_again slots.null fits = refl
row_again (slots.list items) fits =
    let inside = join_with_byte 44 (map item_text (unseal items)) in
    ap (λ found. option_map list_slot (option_and_then parsed_items found)) (brackets_again inside)
    ∙ ap (option_map list_slot) (items_again (unseal items) fits)
    ∙ ap (λ (ss : Slots). Some (slots.list ss)) (seal-unseal items)
row_again other fits = absurd fits

joined_above : (items : List Slot) → AllByRecursion IsItem items → Above 10 (join_with_byte 44 (map item_text items))
joined_above [] fits = tt
joined_above (x ∷ []) fits = above_lower 10 44 (item_text x) (lit≤ tt) (item_above x fits.0)
joined_above (x ∷ y ∷ more) fits = above_append 10 (item_text x) (44 ∷ join_with_byte 44 (map item_text (y ∷ more))) (above_lower 10 44 (item_text x) (lit≤ tt) (item_above x fits.0)) (lit< tt, joined_above (y ∷ more) fits.1)

row_above : (row : Slot) → IsRow row → Above 10 (row_text row)
row_above slots.null fits = (lit< tt, (lit< tt, (lit< tt, (lit< tt, tt))))
row_above (slots.list items) fits = (lit< tt, above_append 10 (join_with_byte 44 (map item_text (unseal items))) (93 ∷ []) (joined_above (unseal items) fits) (lit< tt, tt))
row_above other fits = absurd fits

-- ---- lines

lines_again : (rows : List Slot) → AllByRecursion IsRow rows → lines_of (rows_text rows) ≡ map row_text rows
lines_again [] fits = refl
lines_again (row ∷ rows) fits =
    let whole : rows_text (row ∷ rows) ≡ row_text row ++ 10 ∷ rows_text rows = flat_map-cons (λ r. row_text r ++ 10 ∷ []) row rows ∙ append_assoc (row_text row) (10 ∷ []) (rows_text rows) in
    ap lines_of whole ∙ line_at (row_text row) (rows_text rows) (above_other 10 (row_text row) (row_above row fits.0)) ∙ ap (λ l. row_text row ∷ l) (lines_again rows fits.1)

rows_again : (rows : List Slot) (above items : ℕ) → AllByRecursion IsRow rows → items + item_count rows < 2 ^ 31 → parsed_rows_after above items (map row_text rows) ≡ Ok rows
unfolding parsed_rows_after
rows_again [] above items fits few = refl
rows_again (row ∷ rows) above items fits few =
    let sum : item_count (row ∷ rows) ≡ list_row_len row + item_count rows = sum_by-append list_row_len (row ∷ []) rows ∙ ap (λ n. n + item_count rows) (zero-add (list_row_len row)) in
    let here : items + list_row_len row < 2 ^ 31 = omega arith in
    let rest : (items + list_row_len row) + item_count rows < 2 ^ 31 = omega arith in
    let step : parsed_rows_after above items (row_text row ∷ map row_text rows) ≡ prepend_row row (parsed_rows_after (above + 1) (items + list_row_len row) (map row_text rows)) = rw (row_again row fits.0, parsed_rows_after) (cond-true _ _ _ (lt-ltb _ _ here)) in
    step ∙ ap (prepend_row row) (rows_again rows (above + 1) (items + list_row_len row) fits.1 rest)

pub text_again : (rows : List Slot) → AreRows rows → parsed_rows (rows_text rows) ≡ Ok rows
text_again rows fits = ap (parsed_rows_after 0 0) (lines_again rows fits.0) ∙ rows_again rows 0 0 fits.0 (omega (arith, fits.1))
