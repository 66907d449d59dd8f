-- What is printed of an input, and what an output contains then.
use Rattle.std.specs.Prelude.{ℕ, ⊤, List, Option, None, Result, Ok, Err}
use Rattle.std.specs.Io.KnownBytes.{Appends}
use Rattle.ipc_flatbuf.specs.ReadResults.{FailsOrRunsOut}
use Rattle.ipc_flatbuf.specs.declared.error.IpcReadError as formats
use Rattle.ipc_io.specs.Writes.{WritesPrefix}
use Rattle.cli_args.specs.Requests.{RequestTree}
use Rattle.cli_rows.specs.RequestText.{spec_request_text}
use Rattle.cli_rows.specs.RequestErrors.{IsRequestError}
use Rattle.cli_rows.specs.declared.error.CliError.{CliError}
use Rattle.cli_rows.specs.declared.error.CliError.TheVariants.{Input, Read, MismatchedColumns, IndexOutOfRange, Condition, Output, Memory}
use Rattle.cli_rows.specs.Tables.{TableTree}

-- the text that a request prints of a decoded table
abbrev pub printed_text : RequestTree → Result TableTree formats.IpcReadError → Option (List ℕ)
printed_text q (Ok t) = spec_request_text q t
printed_text q (Err error) = None

-- a table was decoded, and this holds of it
abbrev pub HasTable : Result TableTree formats.IpcReadError → (TableTree → Type 0) → Type 0
HasTable (Ok t) P = P t
HasTable (Err error) P = ⊥

-- why nothing is printed: the first error of the bytes; an error of the request; or an allocation failed
abbrev pub IsPrintError : CliError → RequestTree → Result TableTree formats.IpcReadError → Type 0
IsPrintError (Read error) q read = FailsOrRunsOut error read
IsPrintError MismatchedColumns q read = HasTable read (IsRequestError MismatchedColumns q)
IsPrintError IndexOutOfRange q read = HasTable read (IsRequestError IndexOutOfRange q)
IsPrintError (Condition error) q read = HasTable read (IsRequestError (Condition error) q)
IsPrintError Memory q read = Unit {0}
IsPrintError error q read = ⊥

-- reading failed, or an allocation
abbrev pub IsInputOrMemoryError : CliError → Type 0
IsInputOrMemoryError Input = Unit {0}
IsInputOrMemoryError Memory = Unit {0}
IsInputOrMemoryError error = ⊥

-- all bytes were written, or the output failed after a prefix of them
abbrev pub WritesOutput : Result ⊤ CliError → Option (List ℕ) → Option (List ℕ) → List ℕ → Type 0
WritesOutput (Ok done) old new bytes = Appends old new bytes
WritesOutput (Err Output) old new bytes = WritesPrefix old new bytes
WritesOutput (Err error) old new bytes = ⊥
