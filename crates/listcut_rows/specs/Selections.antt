-- The selection of a `RowSelection`.
use Rattle.std.specs.Prelude.{◌≡◌, ◌≢◌, Option, None}
use Rattle.listcut_rows.specs.Grammar as selections
use Rattle.listcut_rows.specs.declared.error.ListcutError.{ListcutError}
use Rattle.listcut_rows.specs.declared.error.ListcutError.TheVariants.{Arguments, Input, Line, Range, Size, Output, Memory}
use Rattle.listcut_rows.specs.declared.selection.RowSelection.{RowSelection}
use Rattle.listcut_rows.specs.declared.selection.RowSelection.TheVariants.{Slice, Take}

abbrev pub selection_of : RowSelection → selections.Selection
selection_of (Slice offset len) = selections.slice_rows (offset, len)
selection_of (Take indices) = selections.take_rows indices.items

-- the arguments are invalid, or they are valid and an allocation failed
abbrev pub IsArgumentError : {A : Type 0} → ListcutError → Option A → Type 0
IsArgumentError Arguments found = found ≡ None
IsArgumentError Memory found = found ≢ None
IsArgumentError Input found = ⊥
IsArgumentError (Line number) found = ⊥
IsArgumentError Range found = ⊥
IsArgumentError Size found = ⊥
IsArgumentError Output found = ⊥
