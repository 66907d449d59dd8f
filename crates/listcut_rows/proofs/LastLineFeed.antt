-- The last line feed of a text may be missing.
use Rattle.std.proofs.Common.{◌≡◌, ℕ, false, eqb, List, [], ◌∷◌, ◌++◌, length, map, Ok, refl, sym, ap, ◌∙◌, arith, append_assoc, append-nil, inl, inr, length-append}
use Rattle.std.specs.List.{onto_first, join_with_byte, AllByRecursion}
use Rattle.std.proofs.lemmas.Bool.{cond-true, cond-false, cases_Bool}
use Rattle.std.proofs.lemmas.List.{append_cancel_right}
use Rattle.std.proofs.lemmas.List.Concat.{flat_map-cons}
use Rattle.nest_model.specs.Slot as slots
use Rattle.nest_model.specs.Slot.{Slot, unseal}
use Rattle.listcut_rows.specs.Rows.{IsRow, AreRows}
use Rattle.listcut_rows.specs.Grammar.{lines_of, parsed_rows_after, parsed_rows}
use Rattle.listcut_rows.specs.RowText.{item_text, row_text, rows_text, IsRowsText}
use Rattle.listcut_rows.proofs.RoundTrip.{text_again}

-- a line feed at the end does not change the lines, except after nothing or another line feed
feed_off : (bs : List ℕ) (b : ℕ) → eqb b 10 ≡ false → lines_of (bs ++ b ∷ []) ≡ lines_of (bs ++ b ∷ 10 ∷ [])
feed_off [] b other = cond-false (eqb b 10) _ _ other ∙ sym (cond-false (eqb b 10) _ _ other)
feed_off (x ∷ xs) b other =
    elim (cases_Bool (eqb x 10)) [
      | inl feed ↦ cond-true (eqb x 10) _ _ feed ∙ ap (λ ls. [] ∷ ls) (feed_off xs b other) ∙ sym (cond-true (eqb x 10) _ _ feed)
      | inr plain ↦ cond-false (eqb x 10) _ _ plain ∙ ap (onto_first x) (feed_off xs b other) ∙ sym (cond-false (eqb x 10) _ _ plain)
    ]

-- the last byte is no line feed
abbrev EndsPlain : List ℕ → Type 0
EndsPlain bytes = (front : List ℕ) × (b : ℕ) × (eqb b 10 ≡ false) × (bytes ≡ front ++ b ∷ [])

row_end : (row : Slot) → IsRow row → EndsPlain (row_text row)
row_end slots.null fits = (110 ∷ 117 ∷ 108 ∷ [], 108, refl, refl)
row_end (slots.list items) fits = (91 ∷ join_with_byte 44 (map item_text (unseal items)), 93, refl, refl)
row_end other fits = absurd fits

-- the same for a text without its last line feed
text_end : (row : Slot) (rows : List Slot) → AllByRecursion IsRow (row ∷ rows) → (bytes : List ℕ) × EndsPlain bytes × (rows_text (row ∷ rows) ≡ bytes ++ 10 ∷ [])
text_end row [] fits = (row_text row, row_end row fits.0, flat_map-cons (λ r. row_text r ++ 10 ∷ []) row [] ∙ append-nil (row_text row ++ 10 ∷ []))
text_end row (next ∷ more) fits =
    let rest = text_end next more fits.1 in
    let end = rest.1 in
    let front = row_text row ++ 10 ∷ [] in (
      front ++ rest.0,
      (front ++ end.0, end.1, end.2, ap (λ l. front ++ l) end.3 ∙ sym (append_assoc front end.0 (end.1 ∷ []))),
      flat_map-cons (λ r. row_text r ++ 10 ∷ []) row (next ∷ more) ∙ ap (λ l. front ++ l) rest.2 ∙ sym (append_assoc front rest.0 (10 ∷ [])),
    )

unended_lines : (rows : List Slot) (bytes : List ℕ) → AllByRecursion IsRow rows → rows_text rows ≡ bytes ++ 10 ∷ [] → lines_of bytes ≡ lines_of (rows_text rows)
unended_lines [] bytes fits e = absurd (omega (arith, ap length e, length-append bytes (10 ∷ [])))
unended_lines (row ∷ rows) bytes fits e =
    let t = text_end row rows fits in
    let end = t.1 in
    let same : bytes ≡ end.0 ++ end.1 ∷ [] = append_cancel_right bytes t.0 (10 ∷ []) (sym e ∙ t.2) ∙ end.3 in
    let whole : end.0 ++ end.1 ∷ 10 ∷ [] ≡ rows_text (row ∷ rows) = sym (append_assoc end.0 (end.1 ∷ []) (10 ∷ [])) ∙ ap (λ l. l ++ 10 ∷ []) (sym same) ∙ sym e in
    ap lines_of same ∙ feed_off end.0 end.1 end.2 ∙ ap lines_of whole

pub text_read : (bytes : List ℕ) (rows : List Slot) → AreRows rows → IsRowsText bytes rows → parsed_rows bytes ≡ Ok rows
text_read bytes rows fits (inl whole) = ap parsed_rows (sym whole) ∙ text_again rows fits
text_read bytes rows fits (inr lacks) = ap (parsed_rows_after 0 0) (unended_lines rows bytes fits.0 lacks) ∙ text_again rows fits
