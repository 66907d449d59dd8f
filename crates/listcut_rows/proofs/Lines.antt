-- One more line.
use Rattle.std.proofs.Common.{◌≡◌, ℕ, ◌+◌, ◌^◌, ◌<◌, ◌≤◌, List, [], ◌∷◌, ◌++◌, length, Option, Some, None, Result, Ok, Err, refl, sym, ap, ◌∙◌, append_assoc, append-nil, arith, All, eqb, false}
use Rattle.std.specs.Prelude.{MatchOption}
use Rattle.std.specs.Borrow.{Bor}
use Rattle.std.specs.List.{AllByRecursion}
use Rattle.std.proofs.lemmas.Bool.{lt-ltb, le-ltb, cond-true, cond-false}
use Rattle.std.proofs.lemmas.List.Sums.{sum_by-append}
use Rattle.std.proofs.lemmas.List.Elements.{recursion_from_All}
use Rattle.listcut_rows.specs.Rows.{list_row_len, item_count}
use Rattle.nest_model.specs.Slot.{Slot}
use Rattle.listcut_rows.specs.Grammar.{parsed_row, parsed_rows_after, lines_of, prepend_row}
use Rattle.listcut_rows.proofs.Separated.{line_at, line_alone}

abbrev pub with_rows : List Slot → Result (List Slot) ℕ → Result (List Slot) ℕ
with_rows front (Ok rows) = Ok (front ++ rows)
with_rows front (Err line) = Err line

pub with_no_rows : (reading : Result (List Slot) ℕ) → with_rows [] reading ≡ reading
with_no_rows (Ok rows) = refl
with_no_rows (Err line) = refl

rows_grow : (front : List Slot) (row : Slot) (reading : Result (List Slot) ℕ) → with_rows front (prepend_row row reading) ≡ with_rows (front ++ row ∷ []) reading
rows_grow front row (Ok rows) = ap (λ (l : List Slot). Ok l) (sym (append_assoc front (row ∷ []) rows))
rows_grow front row (Err line) = refl

pub rows_end : (front : List Slot) (above items : ℕ) → with_rows front (parsed_rows_after above items (lines_of [])) ≡ Ok front
unfolding parsed_rows_after
rows_end front above items = ap (λ (l : List Slot). Ok l) (append-nil front)

module _ (front : List Slot) (above items : ℕ) (rest line after : List ℕ) (total : Result (List Slot) ℕ)
    (next : lines_of rest ≡ line ∷ lines_of after)
    (so_far : with_rows front (parsed_rows_after above items (lines_of rest)) ≡ total) where
  here : (reading : Result (List Slot) ℕ) → parsed_rows_after above items (line ∷ lines_of after) ≡ reading → with_rows front reading ≡ total
  here reading e = ap (with_rows front) (sym (ap (parsed_rows_after above items) next ∙ e)) ∙ so_far

  pub lines_stop : parsed_row line ≡ None → total ≡ Err (above + 1)
  unfolding parsed_rows_after
  lines_stop none = sym (here (Err (above + 1)) (rw (none, parsed_rows_after) refl))

  pub lines_many : (row : Slot) → parsed_row line ≡ Some row → 2 ^ 31 ≤ items + list_row_len row → total ≡ Err (above + 1)
  unfolding parsed_rows_after
  lines_many row some many = sym (here (Err (above + 1)) (rw (some, parsed_rows_after) (cond-false _ _ _ (le-ltb _ _ many))))

  pub lines_go : (row : Slot) → parsed_row line ≡ Some row → items + list_row_len row < 2 ^ 31 → with_rows (front ++ row ∷ []) (parsed_rows_after (above + 1) (items + list_row_len row) (lines_of after)) ≡ total
  unfolding parsed_rows_after
  lines_go row some few =
      let reading = parsed_rows_after (above + 1) (items + list_row_len row) (lines_of after) in
      sym (rows_grow front row reading) ∙ here (prepend_row row reading) (rw (some, parsed_rows_after) (cond-true _ _ _ (lt-ltb _ _ few)))

-- the lines of the remaining bytes, if any
abbrev pub lines_left : Option (Bor (List ℕ)) → List (List ℕ)
lines_left None = []
lines_left (Some rest) = lines_of rest.now

abbrev NoFeed : ℕ → Type 0
NoFeed b = eqb b 10 ≡ false

line_last : (line : List ℕ) → 0 < length line → AllByRecursion NoFeed line → lines_of line ≡ line ∷ []
line_last [] long h = absurd (omega arith)
line_last (b ∷ bs) long h = line_alone b bs h

-- a line that is a row, and the rows with it
pub lines_next : (front rows : List Slot) (above items len : ℕ) (rest line after : List ℕ) (total : Result (List Slot) ℕ) (row : Slot)
    → lines_of rest ≡ line ∷ lines_of after → with_rows front (parsed_rows_after above items (lines_of rest)) ≡ total
    → parsed_row line ≡ Some row → len ≡ list_row_len row → items + len < 2 ^ 31 → rows ≡ front ++ row ∷ []
    → with_rows rows (parsed_rows_after (above + 1) (items + len) (lines_of after)) ≡ total
lines_next front rows above items len rest line after total row next so_far some len_is few rows_is =
    ap (λ (l : List Slot). with_rows l (parsed_rows_after (above + 1) (items + len) (lines_of after))) rows_is
    ∙ ap (λ n. with_rows (front ++ row ∷ []) (parsed_rows_after (above + 1) (items + n) (lines_of after))) len_is
    ∙ lines_go front above items rest line after total next so_far row some (omega arith)

pub counted_more : (front rows : List Slot) (row : Slot) (items len : ℕ) → items ≡ item_count front → len ≡ list_row_len row → rows ≡ front ++ row ∷ [] → items + len ≡ item_count rows
counted_more front rows row items len counted len_is rows_is =
    let sum : item_count (front ++ row ∷ []) ≡ item_count front + item_count (row ∷ []) = sum_by-append list_row_len front (row ∷ []) in
    omega (arith, ap item_count rows_is)

pub next_line_is : (bytes line : List ℕ) (after : Option (Bor (List ℕ))) → 0 < length bytes → All (λ b. eqb b 10 ≡ false) line → MatchOption after (bytes ≡ line) (λ rest. bytes ≡ line ++ 10 ∷ rest.now) → lines_of bytes ≡ line ∷ lines_left after
next_line_is bytes line None long h whole = ap lines_of whole ∙ line_last line (omega (arith, ap length whole)) (recursion_from_All NoFeed line h)
next_line_is bytes line (Some rest) long h whole = ap lines_of whole ∙ line_at line rest.now (recursion_from_All NoFeed line h)
