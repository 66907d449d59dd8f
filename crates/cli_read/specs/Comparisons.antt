-- The first difference of two inputs, found in their first record batches.
use Rattle.std.specs.Prelude.{◌≡◌, ◌⊎◌, ◌<◌, ◌+◌, ◌^◌, ◌++◌, ℕ, List, length, Option, Some, None, Result, Ok, Err}
use Rattle.ipc_flatbuf.specs.declared.error.IpcReadError as formats
use Rattle.ipc_schema.specs.Projections.{ProjectionModel}
use Rattle.cli_rows.specs.Difference.{AreEqualUpTo}
use Rattle.cli_rows.specs.Rows.{RowSlot}
use Rattle.cli_read.specs.Decoded.{Decoded}
use Rattle.cli_read.specs.Inputs.{decoded_input}
use Rattle.cli_read.specs.ProjectedNames.{FollowsNames, HasUnknown, StopsForName}
use Rattle.cli_read.specs.Remaining.{IsReadErrorOf}
use Rattle.cli_read.specs.declared.input.Input as inputs
use Rattle.cli_rows.specs.Compared.{ComparesTables, IsRowsError, IsTableDifference, table_rows}
use Rattle.cli_rows.specs.Tables.{TableTree}
use Rattle.cli_rows.specs.Output.{HasTable}
use Rattle.cli_rows.specs.declared.difference.Difference.{Difference}
use Rattle.cli_rows.specs.declared.difference.Difference.TheVariants.{Schema, Row as ARow}
use Rattle.cli_rows.specs.declared.error.CliError.{CliError}
use Rattle.cli_rows.specs.declared.error.CliError.TheVariants.{Input}
use Rattle.cli_read.specs.declared.comparison.inputs.CompareError.{CompareError}
use Rattle.cli_read.specs.declared.comparison.inputs.CompareError.TheVariants.{First, Second, TooManyRows}

-- so many record batches are sufficient: all of them; or those that have the row; or none, for schemas
abbrev pub DecidesDifference : Option Difference → Decoded → ℕ → Type 0
DecidesDifference None s k = s.first k ≡ s.whole
DecidesDifference (Some Schema) s k = Unit {0}
DecidesDifference (Some (ARow row)) s k = (s.first k ≡ s.whole) ⊎ HasTable (s.first k) (λ h. row < length (table_rows h))

-- it is the first difference of the first record batches of two inputs, and they are sufficient
abbrev pub FindsDifference : Decoded → Decoded → Option Difference → Type 0
FindsDifference s t difference = (i j : ℕ) × ComparesTables (s.first i) (t.first j) difference × DecidesDifference difference s i × DecidesDifference difference t j

-- where both inputs decode to tables, it is the first difference of the tables
abbrev pub FindsTableDifference : Decoded → Decoded → TableTree → TableTree → Option Difference → Type 0
FindsTableDifference s t h g difference = s.whole ≡ Ok h → t.whole ≡ Ok g → FindsDifference s t difference → IsTableDifference h g difference

-- reading failed; or it is the first error of the bytes, the columns do not match the schema, or an allocation failed
abbrev pub IsBatchReadError : CliError → Result TableTree formats.IpcReadError → Type 0
IsBatchReadError Input read = Unit {0}
IsBatchReadError error read = IsRowsError error read

abbrev pub IsInputError : CliError → Type 0
IsInputError Input = Unit {0}
IsInputError error = ⊥

abbrev pub HasPrefix : List RowSlot → List RowSlot → Type 0
HasPrefix ys xs = (more : List RowSlot) × (ys ≡ xs ++ more)

-- the schemas are equal, and the rows of the first input are the first rows of the second
abbrev pub RowsBegin : Result TableTree formats.IpcReadError → Result TableTree formats.IpcReadError → Type 0
RowsBegin left right = HasTable left (λ h. HasTable right (λ g. (h.schema ≡ g.schema) × HasPrefix (table_rows g) (table_rows h)))

-- The error occurred before any record batch. Or it occurred in a record batch, and the rows before it are the first rows of the other
-- input, so that no difference was found without it.
abbrev pub FailsIn : Option ℕ → CliError → Decoded → Decoded → Type 0
FailsIn None error s t = IsBatchReadError error (s.first 0)
FailsIn (Some k) error s t = IsBatchReadError error (s.first (k + 1)) × (IsInputError error ⊎ ((j : ℕ) × RowsBegin (s.first k) (t.first j)))

-- an error of the second input; before any record batch only if the first input was opened
abbrev pub FailsInSecond : Option ℕ → CliError → Decoded → Decoded → Type 0
FailsInSecond None error s t = HasTable (s.first 0) (λ h. Unit {0}) × FailsIn None error t s
FailsInSecond (Some k) error s t = FailsIn (Some k) error t s

-- the first 2^64 rows are equal
abbrev pub HaveTooManyRows : Decoded → Decoded → Type 0
HaveTooManyRows s t = (i j : ℕ) × HasTable (s.first i) (λ h. HasTable (t.first j) (λ g. (h.schema ≡ g.schema) × AreEqualUpTo (2 ^ 64) (table_rows h) (table_rows g)))

-- the result of comparing two inputs whose bytes are known
abbrev pub ComparesInputs : Option Decoded → Option Decoded → Result (Option Difference) CompareError → Type 0
ComparesInputs None t result = Unit {0}
ComparesInputs (Some s) None result = Unit {0}
ComparesInputs (Some s) (Some t) (Ok difference) = FindsDifference s t difference
ComparesInputs (Some s) (Some t) (Err (First stop)) = FailsIn stop.batch stop.error s t
ComparesInputs (Some s) (Some t) (Err (Second stop)) = FailsInSecond stop.batch stop.error s t
ComparesInputs (Some s) (Some t) (Err TooManyRows) = HaveTooManyRows s t

-- The error occurred with names that all have a column in both inputs. Where one has none, it is an error of reading before any record
-- batch; of the second input only if the first one has all names.
abbrev pub FollowsComparedNames : ProjectionModel → Decoded → Decoded → CompareError → Type 0
FollowsComparedNames picks s t (First stop) = (HasUnknown picks None s × HasUnknown picks None t) ⊎ ((stop.batch ≡ None) × IsReadErrorOf stop.error (s.first 0))
FollowsComparedNames picks s t (Second stop) = HasUnknown picks None s × FollowsNames picks (Some t) stop
FollowsComparedNames picks s t TooManyRows = HasUnknown picks None s × HasUnknown picks None t

-- the error has the first projected name that no column of an input has
abbrev pub LacksComparedName : ProjectionModel → Decoded → Decoded → CompareError → Type 0
LacksComparedName picks s t (First stop) = StopsForName picks (Some s) stop
LacksComparedName picks s t (Second stop) = HasUnknown picks None s × StopsForName picks (Some t) stop
LacksComparedName picks s t TooManyRows = ⊥

-- the same of projected columns: each projected name is that of a column of both inputs, or the first that is not is the error
abbrev pub ComparesColumns : ProjectionModel → Option Decoded → Option Decoded → Result (Option Difference) CompareError → Type 0
ComparesColumns picks None t result = Unit {0}
ComparesColumns picks (Some s) None result = Unit {0}
ComparesColumns picks (Some s) (Some t) (Ok difference) = ComparesInputs (Some s) (Some t) (Ok difference) × HasUnknown picks None s × HasUnknown picks None t
ComparesColumns picks (Some s) (Some t) (Err e) = (ComparesInputs (Some s) (Some t) (Err e) × FollowsComparedNames picks s t e) ⊎ LacksComparedName picks s t e

module _ {R S : Type 0} (remaining : R → Option (List ℕ)) (position : R → Option ℕ) (bytes : R → Option (List ℕ)) (remaining_s : S → Option (List ℕ)) (position_s : S → Option ℕ) (bytes_s : S → Option (List ℕ)) where
  -- the result of comparing the projected columns of two inputs
  abbrev pub ComparesProjections : ProjectionModel → inputs.Input R → inputs.Input S → Result (Option Difference) CompareError → Type 0
  ComparesProjections picks left right result = ComparesColumns picks (decoded_input remaining position bytes picks left) (decoded_input remaining_s position_s bytes_s picks right) result
