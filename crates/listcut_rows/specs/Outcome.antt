-- The result of the program.
use Rattle.std.specs.Io.KnownBytes.{Appends, Keeps}
use Rattle.std.specs.List.{list_all}
use Rattle.std.specs.Prelude.{◌≡◌, ℕ, ◌+◌, ◌^◌, ◌≤◌, ◌++◌, ⊤, List, Option, Some, None, Result, Ok, Err, if◌then◌else◌, nat_le, nat_lt, length}
use Rattle.nest_model.specs.Selected.{selected}
use Rattle.nest_model.specs.Slot.{Slot}
use Rattle.nest_memory.specs.Sublist.{sublist}
use Rattle.listcut_rows.specs.declared.error.ListcutError.{ListcutError}
use Rattle.listcut_rows.specs.declared.error.ListcutError.TheVariants.{Arguments, Input, Line, Range, Size, Output, Memory}
use Rattle.listcut_rows.specs.Grammar.{Selection, slice_rows, take_rows, parsed_rows, parsed_selection}
use Rattle.listcut_rows.specs.Rows.{item_count}
use Rattle.listcut_rows.specs.RowText.{rows_text}

-- an error of parsing: the first invalid line, or a failed allocation
abbrev pub IsReadError : ListcutError → Result (List Slot) ℕ → Type 0
IsReadError (Line number) reading = reading ≡ Err number
IsReadError Memory reading = Unit {0}
IsReadError Arguments reading = ⊥
IsReadError Input reading = ⊥
IsReadError Range reading = ⊥
IsReadError Size reading = ⊥
IsReadError Output reading = ⊥

-- a prefix of the bytes was written
abbrev pub WritesPrefix : Option (List ℕ) → Option (List ℕ) → List ℕ → Type 0
WritesPrefix old new bytes = (front : List ℕ) × (rest : List ℕ) × (bytes ≡ front ++ rest) × Appends old new front

-- all bytes were written, a prefix of them if the output failed, or none if an allocation failed
abbrev pub Writes : Result ⊤ ListcutError → Option (List ℕ) → Option (List ℕ) → List ℕ → Type 0
Writes (Ok done) old new bytes = Appends old new bytes
Writes (Err Output) old new bytes = WritesPrefix old new bytes
Writes (Err Memory) old new bytes = Keeps old new
Writes (Err Arguments) old new bytes = ⊥
Writes (Err Input) old new bytes = ⊥
Writes (Err (Line number)) old new bytes = ⊥
Writes (Err Range) old new bytes = ⊥
Writes (Err Size) old new bytes = ⊥

-- ---- a run of the program

-- the rows of a slice or at indices, in their order, if it is in bounds
abbrev pub selected_rows : Selection → List Slot → Result (List Slot) ListcutError
selected_rows (slice_rows window) rows = if nat_le (window.0 + window.1) (length rows) then Ok (sublist rows window.0 window.1) else Err Range
selected_rows (take_rows indices) rows = if list_all (λ index. nat_lt index (length rows)) indices then Ok (selected rows indices) else Err Range

abbrev pub result_for : Option Selection → Result (List Slot) ℕ → Result (List Slot) ListcutError
result_for None reading = Err Arguments
result_for (Some request) (Err number) = Err (Line number)
result_for (Some request) (Ok rows) = selected_rows request rows

-- the rows of the input that the arguments select, or the first error
abbrev pub expected_result : List (List ℕ) → List ℕ → Result (List Slot) ListcutError
expected_result arguments input = result_for (parsed_selection arguments) (parsed_rows input)

-- the selected rows have 2^31 items or more
abbrev pub ExceedsItemLimit : Result (List Slot) ListcutError → Type 0
ExceedsItemLimit expected = (rows : List Slot) × (expected ≡ Ok rows) × (2 ^ 31 ≤ item_count rows)

-- an error of selecting: out of bounds, too many items, or a failed allocation
abbrev pub IsSelectError : ListcutError → Result (List Slot) ListcutError → Type 0
IsSelectError Range expected = expected ≡ Err Range
IsSelectError Size expected = ExceedsItemLimit expected
IsSelectError Memory expected = Unit {0}
IsSelectError Arguments expected = ⊥
IsSelectError Input expected = ⊥
IsSelectError (Line number) expected = ⊥
IsSelectError Output expected = ⊥

-- An error is the expected one, and nothing was written; so are too many items, and a failed read or allocation whatever is expected.
-- Otherwise the expected rows were written, or a prefix of their text.
abbrev pub IsRunResult : Result ⊤ ListcutError → Result (List Slot) ListcutError → Option (List ℕ) → Option (List ℕ) → Type 0
IsRunResult (Ok done) expected old new = (rows : List Slot) × (expected ≡ Ok rows) × Appends old new (rows_text rows)
IsRunResult (Err Output) expected old new = (rows : List Slot) × (expected ≡ Ok rows) × WritesPrefix old new (rows_text rows)
IsRunResult (Err Memory) expected old new = Keeps old new
IsRunResult (Err Input) expected old new = Keeps old new
IsRunResult (Err Arguments) expected old new = (expected ≡ Err Arguments) × Keeps old new
IsRunResult (Err (Line number)) expected old new = (expected ≡ Err (Line number)) × Keeps old new
IsRunResult (Err Range) expected old new = (expected ≡ Err Range) × Keeps old new
IsRunResult (Err Size) expected old new = ExceedsItemLimit expected × Keeps old new

-- an error of the input or a failed allocation
abbrev pub IsInputOrMemoryError : ListcutError → Type 0
IsInputOrMemoryError Input = Unit {0}
IsInputOrMemoryError Memory = Unit {0}
IsInputOrMemoryError Arguments = ⊥
IsInputOrMemoryError (Line number) = ⊥
IsInputOrMemoryError Range = ⊥
IsInputOrMemoryError Size = ⊥
IsInputOrMemoryError Output = ⊥
