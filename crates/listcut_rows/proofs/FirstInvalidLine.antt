-- The line of the error is the first invalid one.
use Rattle.std.proofs.Common.{◌≡◌, ℕ, ◌+◌, ◌^◌, ◌<◌, ◌≤◌, cond, ltb, List, [], ◌∷◌, ◌++◌, length, map, Result, Ok, Err, refl, sym, ap, ◌∙◌, arith, inl, inr, zero-add, lit<}
use Rattle.std.specs.List.{AllByRecursion}
use Rattle.std.proofs.lemmas.Bool.{ltb-true, ltb-false, le-ltb, lt-ltb, cond-true, cond-false}
use Rattle.std.proofs.lemmas.Option.{same_Some, none-some}
use Rattle.std.proofs.lemmas.List.Sums.{sum_by-append}
use Rattle.nest_model.specs.Slot.{Slot}
use Rattle.listcut_rows.specs.Rows.{list_row_len, item_count, IsRow}
use Rattle.listcut_rows.specs.Grammar.{parsed_row, lines_of, parsed_rows_after, parsed_rows, prepend_row}
use Rattle.listcut_rows.specs.RowText.{row_text, IsFirstInvalidLine}
use Rattle.listcut_rows.proofs.RoundTrip.{row_again}
use Rattle.listcut_rows.proofs.ParsedText.{selected, cases_row, row_takes}

-- each row of the line exceeds the number of items
abbrev NoRow : ℕ → List ℕ → Type 0
NoRow items line = (row : Slot) → IsRow row → row_text row ≡ line → 2 ^ 31 ≤ items + list_row_len row

-- the same after some lines and items
abbrev FaultAfter : ℕ → ℕ → List (List ℕ) → ℕ → Type 0
FaultAfter above items lines k = (rows : List Slot) × (line : List ℕ) × (after : List (List ℕ)) × (AllByRecursion IsRow rows × (items + item_count rows < 2 ^ 31))
    × (lines ≡ map row_text rows ++ line ∷ after) × (above + (length rows + 1) ≡ k) × NoRow (items + item_count rows) line

items_of_rows : (row : Slot) (rows : List Slot) → item_count (row ∷ rows) ≡ list_row_len row + item_count rows
items_of_rows row rows = sum_by-append list_row_len (row ∷ []) rows ∙ ap (λ n. n + item_count rows) (zero-add (list_row_len row))

err_line : (j k : ℕ) → ◌≡◌ {A = Result (List Slot) ℕ} (Err j) (Err k) → j ≡ k
err_line j k e = cc

onto_err : (row : Slot) (reading : Result (List Slot) ℕ) (k : ℕ) → prepend_row row reading ≡ Err k → reading ≡ Err k
onto_err row (Ok rows) k e = absurd cc
onto_err row (Err line) k e = cc

lines_fault : (above items : ℕ) (lines : List (List ℕ)) (k : ℕ) → items < 2 ^ 31 → parsed_rows_after above items lines ≡ Err k → FaultAfter above items lines k
unfolding parsed_rows_after
lines_fault above items [] k few e = absurd cc
lines_fault above items (line ∷ lines) k few e =
    elim (cases_row (parsed_row line)) [
      | inl none ↦
          let bad : parsed_rows_after above items (line ∷ lines) ≡ Err (above + 1) = rw (none, parsed_rows_after) refl in
          ([], line, lines, (tt, omega arith), refl, err_line (above + 1) k (sym bad ∙ e), λ row fits spelled. absurd (none-some row (sym none ∙ ap parsed_row (sym spelled) ∙ row_again row fits)))
      | inr found ↦
          let row = found.0 in
          let step : parsed_rows_after above items (line ∷ lines) ≡ cond (ltb (items + list_row_len row) (2 ^ 31)) (prepend_row row (parsed_rows_after (above + 1) (items + list_row_len row) lines)) (Err (above + 1)) = rw (found.1, parsed_rows_after) refl in
          elim (selected (ltb (items + list_row_len row) (2 ^ 31)) (prepend_row row (parsed_rows_after (above + 1) (items + list_row_len row) lines)) (Err (above + 1)) (Err k) (sym step ∙ e)) [
            | inl within ↦
                let small : items + list_row_len row < 2 ^ 31 = ltb-true _ _ within.0 in
                let f = lines_fault (above + 1) (items + list_row_len row) lines k small (onto_err row (parsed_rows_after (above + 1) (items + list_row_len row) lines) k within.1) in
                let here = row_takes line row found.1 in
                let sum = items_of_rows row f.0 in (
                  row ∷ f.0,
                  f.1,
                  f.2,
                  ((here.0, f.3.0), omega (arith, sum, f.3.1)),
                  ap (λ ls. line ∷ ls) f.4 ∙ ap (λ t. t ∷ (map row_text f.0 ++ f.1 ∷ f.2)) (sym here.1),
                  omega (arith, f.5),
                  λ other fits spelled. omega (arith, sum, f.6 other fits spelled),
                )
            | inr many ↦
                let big : 2 ^ 31 ≤ items + list_row_len row = ltb-false _ _ many.0 in (
                  [],
                  line,
                  lines,
                  (tt, omega arith),
                  refl,
                  err_line (above + 1) k many.1,
                  λ other fits spelled.
                      let same : row ≡ other = same_Some _ _ (sym found.1 ∙ ap parsed_row (sym spelled) ∙ row_again other fits) in
                      omega (arith, ap list_row_len same),
                )
          ]
    ]

pub first_fault_is : (bytes : List ℕ) (k : ℕ) → parsed_rows bytes ≡ Err k → IsFirstInvalidLine (lines_of bytes) k
first_fault_is bytes k e =
    let f = lines_fault 0 0 (lines_of bytes) k (lit< tt) e in
    (f.0, f.1, f.2, (f.3.0, omega (arith, f.3.1)), f.4, omega (arith, f.5), λ row fits spelled. omega (arith, f.6 row fits spelled))

fault_here : (above items : ℕ) (line : List ℕ) (after : List (List ℕ)) → NoRow items line → parsed_rows_after above items (line ∷ after) ≡ Err (above + 1)
unfolding parsed_rows_after
fault_here above items line after none_fits =
    elim (cases_row (parsed_row line)) [
      | inl none ↦ rw (none, parsed_rows_after) refl
      | inr found ↦
          let row = found.0 in
          let here = row_takes line row found.1 in
          let big : 2 ^ 31 ≤ items + list_row_len row = none_fits row here.0 here.1 in
          rw (found.1, parsed_rows_after) (cond-false _ _ _ (le-ltb _ _ big))
    ]

fault_after : (rows : List Slot) (line : List ℕ) (after : List (List ℕ)) (above items : ℕ) → AllByRecursion IsRow rows → items + item_count rows < 2 ^ 31 → NoRow (items + item_count rows) line
    → parsed_rows_after above items (map row_text rows ++ line ∷ after) ≡ Err (above + (length rows + 1))
unfolding parsed_rows_after
fault_after [] line after above items fits few none_fits = fault_here above items line after (λ row fit spelled. omega (arith, none_fits row fit spelled))
fault_after (row ∷ rows) line after above items fits few none_fits =
    let sum = items_of_rows row rows in
    let here : items + list_row_len row < 2 ^ 31 = omega (arith, sum) in
    let rest = fault_after rows line after (above + 1) (items + list_row_len row) fits.1 (omega (arith, sum)) (λ other fit spelled. omega (arith, sum, none_fits other fit spelled)) in
    let lines = map row_text rows ++ line ∷ after in
    let step : parsed_rows_after above items (row_text row ∷ lines) ≡ prepend_row row (parsed_rows_after (above + 1) (items + list_row_len row) lines) = rw (row_again row fits.0, parsed_rows_after) (cond-true _ _ _ (lt-ltb _ _ here)) in
    let place : above + 1 + (length rows + 1) ≡ above + (length (row ∷ rows) + 1) = omega arith in
    step ∙ ap (prepend_row row) rest ∙ ap (λ n. Err n) place

pub fault_is_first : (bytes : List ℕ) (k : ℕ) → IsFirstInvalidLine (lines_of bytes) k → parsed_rows bytes ≡ Err k
fault_is_first bytes k (rows, line, after, fits, lines, place, none_fits) =
    ap (parsed_rows_after 0 0) lines
    ∙ fault_after rows line after 0 0 fits.0 (omega (arith, fits.1)) (λ row fit spelled. omega (arith, none_fits row fit spelled))
    ∙ ap (λ n. Err n) (let e : 0 + (length rows + 1) ≡ k = omega (arith, place) in e)
