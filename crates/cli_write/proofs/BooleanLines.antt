-- Lines of one boolean field.
use Rattle.std.proofs.Common.{◌≡◌, ◌∙◌, ℕ, Bool, true, false, List, [], ◌∷◌, None, Ok, Err, ap, sym}
use Rattle.cli_rows.specs.Records.{record_type}
use Rattle.cli_rows.specs.Rows.{RowSlot}
use Rattle.cli_write.specs.LineExamples.{IsBooleanLine, invalid_json}
use Rattle.cli_write.specs.Imports.{HasRows, records_of}
use Rattle.json_read.specs.JsonLines.{json_value, line_row, value_row, line_rows}
use Rattle.json_read.specs.LineRows as told
use Rattle.json_read.specs.LineRows.{failure_of, prepend_row}
use Rattle.cli_rows.specs.Compared.{table_rows}
use Rattle.cli_rows.specs.TableExamples.{ok_field}
use Rattle.cli_rows.specs.Tables.{TableTree}
use Rattle.nest_memory.specs.TypeTree.{TypeTree}
use Rattle.nest_model.specs.Slot as slots
use Rattle.nest_model.specs.Slot.{Slot, more_slots, no_slots}

abbrev pub ok_type : TypeTree
ok_type = record_type (ok_field ∷ [])

abbrev pub ok_slot : Bool → Slot
ok_slot b = slots.record_of (more_slots (slots.boolean b) no_slots)

row-is : (line : List ℕ) (b : Bool) → IsBooleanLine line b → line_row ok_type line ≡ Ok (ok_slot b)
row-is line true h = ap (value_row ok_type) h
row-is line false h = ap (value_row ok_type) h

pub rows-are : (x y : List ℕ) (a b : Bool) → IsBooleanLine x a → IsBooleanLine y b → line_rows ok_type (x ∷ y ∷ []) ≡ Ok (ok_slot a ∷ ok_slot b ∷ [])
rows-are x y a b hx hy = λ i. prepend_row (row-is x a hx i) 0 (prepend_row (row-is y b hy i) 1 (Ok []))

pub rows-stop : (x y : List ℕ) (a : Bool) → IsBooleanLine x a → json_value y ≡ None → line_rows ok_type (x ∷ y ∷ []) ≡ Err (1, failure_of invalid_json)
rows-stop x y a hx hy = λ i. prepend_row (row-is x a hx i) 0 (prepend_row (ap (value_row ok_type) hy i) 1 (Ok []))

abbrev slots-in : told.Rows → List Slot
slots-in (Ok ss) = ss
slots-in (Err f) = []

pub held-so : (x y : List ℕ) (a b : Bool) (h : TableTree) → IsBooleanLine x a → IsBooleanLine y b → HasRows (ok_field ∷ []) (x ∷ y ∷ []) h → table_rows h ≡ records_of ok_type (ok_slot a ∷ ok_slot b ∷ [])
held-so x y a b h hx hy is = is.held ∙ ap (λ r. records_of ok_type (slots-in r)) (sym is.read ∙ rows-are x y a b hx hy)

abbrev truth-in : Slot → Bool
truth-in (slots.record_of (more_slots (slots.boolean b) ss)) = b
truth-in _ = false

abbrev pub first-truth : List RowSlot → Bool
first-truth [] = false
first-truth (r ∷ rows) = truth-in r.1

abbrev pub place-in : told.Rows → ℕ
place-in (Ok ss) = 0
place-in (Err f) = f.0
