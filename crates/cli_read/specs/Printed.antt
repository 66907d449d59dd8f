-- What is printed of an input, also where an error occurs.
use Rattle.std.specs.Prelude.{◌≡◌, ◌⊎◌, ◌+◌, ℕ, ⊤, List, Option, Some, None, Result, Ok, Err}
use Rattle.std.specs.Io.KnownBytes.{Appends, Keeps}
use Rattle.ipc_flatbuf.specs.declared.error.IpcReadError as formats
use Rattle.ipc_io.specs.Writes.{WritesPrefix}
use Rattle.ipc_schema.specs.Projections.{ProjectionModel}
use Rattle.cli_args.specs.Requests.{RequestTree}
use Rattle.cli_rows.specs.Tables.{TableTree}
use Rattle.cli_rows.specs.Output.{HasTable, IsPrintError, printed_text}
use Rattle.cli_rows.specs.declared.error.BatchError.{BatchError}
use Rattle.cli_rows.specs.declared.error.CliError.{CliError}
use Rattle.cli_rows.specs.declared.error.CliError.TheVariants.{Input, Output}
use Rattle.cli_read.specs.RemainingRequests.{HasRequestedRows}
use Rattle.cli_read.specs.Decoded.{Decoded}
use Rattle.cli_read.specs.ProjectedNames.{FollowsNames, HasUnknown, StopsForName}

-- the request prints this text of a table
abbrev pub HasText : RequestTree → TableTree → List ℕ → Type 0
HasText q t text = printed_text q (Ok t) ≡ Some text

-- the text of the request was written
abbrev pub WritesText : RequestTree → Result TableTree formats.IpcReadError → Option (List ℕ) → Option (List ℕ) → Type 0
WritesText q read old new = (text : List ℕ) × (printed_text q read ≡ Some text) × Appends old new text

-- a prefix of it was written
abbrev pub WritesTextPrefix : RequestTree → Result TableTree formats.IpcReadError → Option (List ℕ) → Option (List ℕ) → Type 0
WritesTextPrefix q read old new = (text : List ℕ) × (printed_text q read ≡ Some text) × WritesPrefix old new text

-- The output failed, and a prefix of the text was written. Or reading failed, the request has this error, or an allocation failed, and only
-- the earlier text was written.
abbrev pub FailsWith : CliError → RequestTree → Result TableTree formats.IpcReadError → Type 0 → Option (List ℕ) → Option (List ℕ) → Type 0
FailsWith Output q read Earlier old new = WritesTextPrefix q read old new
FailsWith Input q read Earlier old new = Earlier
FailsWith error q read Earlier old new = Earlier × IsPrintError error q read

-- the same where no text was written earlier
abbrev pub FailsToPrint : CliError → RequestTree → Result TableTree formats.IpcReadError → Option (List ℕ) → Option (List ℕ) → Type 0
FailsToPrint error q read old new = FailsWith error q read (Keeps old new) old new

-- the decoded record batches have all rows that the request prints
abbrev pub HasRowsToPrint : RequestTree → Result TableTree formats.IpcReadError → Type 0
HasRowsToPrint q read = HasTable read (HasRequestedRows q)

-- the first record batches, where they are sufficient, print the text that all record batches print
abbrev pub SufficientBatchesPrint : RequestTree → Decoded → Type 0
SufficientBatchesPrint q s = (k : ℕ) (h : TableTree) → s.whole ≡ Ok h → HasRowsToPrint q (s.first k) → printed_text q (s.first k) ≡ printed_text q (Ok h)

-- The error occurred before the first record batch, and nothing was written. Or it occurred in a record batch, the batches before it were
-- not sufficient, and their text was written.
abbrev pub FailsWhilePrinting : RequestTree → Decoded → Option ℕ → CliError → Option (List ℕ) → Option (List ℕ) → Type 0
FailsWhilePrinting q s None error old new = FailsWith error q (s.first 0) (Keeps old new) old new
FailsWhilePrinting q s (Some k) error old new = FailsWith error q (s.first (k + 1)) (WritesText q (s.first k) old new) old new × (HasRowsToPrint q (s.first k) → ⊥)

-- The text of the first record batches was written: of all, or of sufficient ones. Or an error occurred.
abbrev pub Prints : RequestTree → Option Decoded → Result ⊤ BatchError → Option (List ℕ) → Option (List ℕ) → Type 0
Prints q None result old new = Unit {0}
Prints q (Some s) (Ok done) old new = (k : ℕ) × WritesText q (s.first k) old new × ((s.first k ≡ s.whole) ⊎ HasRowsToPrint q (s.first k))
Prints q (Some s) (Err e) old new = FailsWhilePrinting q s e.batch e.error old new

-- the same of projected columns: each projected name is that of a column, or the first that is not is the error, and nothing was written
abbrev pub PrintsColumns : ProjectionModel → RequestTree → Option Decoded → Result ⊤ BatchError → Option (List ℕ) → Option (List ℕ) → Type 0
PrintsColumns picks q None result old new = Unit {0}
PrintsColumns picks q (Some s) (Ok done) old new = Prints q (Some s) (Ok done) old new × HasUnknown picks None s
PrintsColumns picks q (Some s) (Err e) old new = (Prints q (Some s) (Err e) old new × FollowsNames picks (Some s) e) ⊎ (StopsForName picks (Some s) e × Keeps old new)
