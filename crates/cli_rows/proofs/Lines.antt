-- Rows as lines.
use Rattle.std.proofs.Common.{◌≡◌, ℕ, zero, suc, ◌+◌, ◌<◌, ◌≤◌, [], ◌∷◌, ◌++◌, map, sym, ap, ◌∙◌, arith, append_assoc}
use Rattle.std.proofs.lemmas.List.{flat_map_more, map-append}
use Rattle.nest_model.specs.Layout.{Layout, layout_type}
use Rattle.nest_model.specs.Meaning.{len, run, slot}
use Rattle.nest_model.specs.Reads.{items-cut}
use Rattle.nest_model.specs.Slot.{Slot}
use Rattle.nest_array.specs.WindowParts.{window_parts}
use Rattle.json_write.specs.JsonText.{slot_json}
use Rattle.cli_rows.specs.Rows.{RowSlot, rows_in}
use Rattle.cli_rows.specs.Text.{json_line, text_of_rows}

run-more : (f : ℕ → Slot) (o k : ℕ) → run f o (k + 1) ≡ run f o k ++ f (o + k) ∷ []
run-more f o zero = let e : o ≡ o + 0 = omega arith in ap (λ i. f i ∷ []) e
run-more f o (suc k) =
    let e : suc k + 1 ≡ suc (k + 1) = omega arith in
    let at : suc o + k ≡ o + suc k = omega arith in
    ap (run f o) e ∙ ap (λ ss. f o ∷ ss) (run-more f (suc o) k ∙ ap (λ i. run f (suc o) k ++ f i ∷ []) at)

window-run : (a : Layout) (o n : ℕ) → o + n ≤ len a → rows_in (window_parts a o n) ≡ map (λ s. (layout_type a, s)) (run (slot a) o n)
window-run a o n h = ap (map (λ s. (layout_type a, s))) (sym (items-cut a o n h))

pub line-next : (a : Layout) (o k : ℕ) → o + k < len a
    → (text_of_rows (rows_in (window_parts a o k)) ++ slot_json a (o + k)) ++ 10 ∷ [] ≡ text_of_rows (rows_in (window_parts a o (k + 1)))
line-next a o k h =
    let typed : Slot → RowSlot = λ s. (layout_type a, s) in
    let before = map typed (run (slot a) o k) in
    let row = typed (slot a (o + k)) in
    append_assoc (text_of_rows (rows_in (window_parts a o k))) (slot_json a (o + k)) (10 ∷ [])
    ∙ ap (λ rs. text_of_rows rs ++ json_line row) (window-run a o k (omega arith))
    ∙ flat_map_more json_line [] before row
    ∙ ap text_of_rows (sym (map-append typed (run (slot a) o k) (slot a (o + k) ∷ [])) ∙ ap (map typed) (sym (run-more (slot a) o k)))
    ∙ ap text_of_rows (sym (window-run a o (k + 1) (omega arith)))
