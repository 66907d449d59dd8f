-- States of taking rows by index.
use Rattle.std.specs.Prelude.{◌≡◌, ◌⊎◌, ◌<◌, ◌≤◌, ℕ, Bool, true, false, List, [], ◌++◌, get_or, length, map, take, Option, None, Some}
use Rattle.std.specs.List.{AllByRecursion, flat_map}
use Rattle.std.specs.List.Sorted.{IsNonDecreasing, IsPermutation}
use Rattle.nest_memory.specs.TypeTree.{FieldTree}
use Rattle.nest_model.specs.Layout.{Layout}
use Rattle.nest_array.specs.Seen.{layout_of}
use Rattle.ipc_schema.specs.Schemas.{SchemaModel}
use Rattle.cli_rows.specs.declared.error.BatchError.{BatchError}
use Rattle.cli_rows.specs.Selection.{selected_rows}
use Rattle.cli_rows.specs.Rows.{RowSlot, rows_at_indices, rows_of}
use Rattle.cli_read.specs.Remaining.{Remaining}
use Rattle.cli_read.specs.RowBuffers.{IsRowBufferError, BufferState}
use Rattle.cli_rows.specs.SelectedTables.{AreRowsOf}
use Rattle.cli_rows.specs.declared.error.CliError.{CliError}
use Rattle.cli_rows.specs.declared.error.CliError.TheVariants.{Input, Read, Write, MismatchedColumns, IndexOutOfRange, Condition, UnknownName, Output, Memory}
use Rattle.cli_args.specs.Requests.{indices}
use Rattle.cli_read.specs.declared.by_index.rows.TakeState.{TakeState}

-- The indices are sorted, and so many of them were found in these rows, whose rows were taken. The others are after these rows.
pub record AreTaken (fs : List FieldTree) (wanted : List ℕ) (rows : List RowSlot) (next passed : ℕ) (taken : List RowSlot) : Type 0 where
  pub rise : IsNonDecreasing wanted
  pub count : next ≤ length wanted
  pub within : AllByRecursion (λ p. p < length rows) (take next wanted)
  pub are : taken ≡ rows_at_indices rows (take next wanted)
  pub each : AreRowsOf fs taken
  pub rest : next < length wanted → (passed ≡ length rows) × (length rows ≤ get_or wanted next 0)

abbrev pub rows_taken : TakeState → List RowSlot
rows_taken t = flat_map rows_of (map layout_of t.rows.items)

abbrev pub HasTakenFrom : List FieldTree → List RowSlot → TakeState → Type 0
HasTakenFrom fs rows t = AreTaken fs t.wanted.items rows t.next t.passed (rows_taken t)

-- more rows of these fields were read, and those at indices taken
abbrev pub TakesRows : List RowSlot → TakeState → TakeState → Type 0
TakesRows more old new = (fs : List FieldTree) (rows : List RowSlot) → AreRowsOf fs more → HasTakenFrom fs rows old → HasTakenFrom fs (rows ++ more) new

abbrev pub HasMoreIndices : TakeState → Type 0
HasMoreIndices t = t.next < length t.wanted.items

-- so many record batches were read, or all of them
abbrev pub IsTakeState : Option Remaining → SchemaModel → Bool → ℕ → Option Remaining → TakeState → Type 0
IsTakeState t s over k u state = (rows : List RowSlot) × BufferState t s rows over k [] u × HasTakenFrom s.fields rows state

-- all indices were found, or all record batches were read
abbrev pub IsTakeEnd : Option Remaining → SchemaModel → TakeState → Type 0
IsTakeEnd t s state = (over : Bool) × (k : ℕ) × (u : Option Remaining) × IsTakeState t s over k u state × ((over ≡ true) ⊎ (length state.wanted.items ≤ state.next))

-- it continues, or this was the last step
abbrev pub IsTakeStep : Bool → Type 0 → Type 0 → Type 0
IsTakeStep true Next End = Next
IsTakeStep false Next End = End

-- the record batch after these rows, in which an index is out of range, was not read
abbrev pub IsTakeStateError : Option Remaining → SchemaModel → List ℕ → BatchError → Type 0
IsTakeStateError t s wanted stop = (rows : List RowSlot) × IsRowBufferError t s rows stop × (selected_rows (indices wanted) rows ≡ None)

-- ---- the end

-- these are the rows at the indices
abbrev pub AreRowsAtIndices : List FieldTree → List ℕ → List RowSlot → List Layout → Type 0
AreRowsAtIndices fs wanted rows as_ = (selected_rows (indices wanted) rows ≡ Some (flat_map rows_of as_)) × AreRowsOf fs (flat_map rows_of as_)

-- these are the rows at indices, of all rows from which the state has taken the rows at the same indices in sorted order
abbrev pub AreTakenRows : List ℕ → TakeState → List Layout → Type 0
AreTakenRows wanted t as_ = (fs : List FieldTree) (rows : List RowSlot) → IsPermutation wanted t.wanted.items → HasTakenFrom fs rows t → AreRowsAtIndices fs wanted rows as_

-- an index is out of range, or an allocation failed
abbrev pub IsFinishError : CliError → TakeState → Type 0
IsFinishError IndexOutOfRange t = HasMoreIndices t
IsFinishError Memory t = Unit {0}
IsFinishError (Read error) t = ⊥
IsFinishError (Write why) t = ⊥
IsFinishError MismatchedColumns t = ⊥
IsFinishError (Condition error) t = ⊥
IsFinishError (UnknownName i) t = ⊥
IsFinishError Input t = ⊥
IsFinishError Output t = ⊥
