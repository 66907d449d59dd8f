-- The slots of lines, or the first invalid line.
use Rattle.std.specs.Prelude.{ℕ, ◌+◌, List, [], ◌∷◌, Option, option_map, string_bytes, Result, Ok, Err}
use Rattle.json_read.specs.declared.error.FieldError.{FieldError}
use Rattle.json_read.specs.declared.error.LineError.{LineError}
use Rattle.nest_memory.specs.TypeTree.{Letters}
use Rattle.nest_model.specs.Slot.{Slot}

-- why a line is invalid, and the path of the field that the error is in
pub record LineFailure : Type 0 where
  pub reason : LineError
  pub path : Option Letters

-- the failure that an error has
abbrev pub failure_of : FieldError → LineFailure
failure_of e = record { reason = e.reason; path = option_map string_bytes e.field }

-- the slot of a line, or its error
abbrev pub LineRow : Type 0
LineRow = Result Slot LineFailure

-- the slots of lines, or the index and the error of the first invalid line
abbrev pub Rows : Type 0
Rows = Result (List Slot) (ℕ × LineFailure)

abbrev pub prepend_slot : Slot → Rows → Rows
prepend_slot s (Ok ss) = Ok (s ∷ ss)
prepend_slot s (Err f) = Err f

abbrev pub prepend_row : LineRow → ℕ → Rows → Rows
prepend_row (Ok s) above rest = prepend_slot s rest
prepend_row (Err e) above rest = Err (above, e)

-- the rows of lines, the first with index `above`
abbrev pub rows_from : (List ℕ → LineRow) → ℕ → List (List ℕ) → Rows
rows_from row above [] = Ok []
rows_from row above (line ∷ lines) = prepend_row (row line) above (rows_from row (above + 1) lines)
