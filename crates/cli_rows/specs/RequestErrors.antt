-- Why a request prints no text of a table.
use Rattle.std.specs.Prelude.{◌≡◌, Option, Some, None}
use Rattle.cli_args.specs.Requests.{RequestTree}
use Rattle.cli_rows.specs.RequestText.{spec_request_text}
use Rattle.cli_rows.specs.ColumnNames.{request_error}
use Rattle.cli_rows.specs.Tables.{TableTree, MatchesSchema}
use Rattle.cli_rows.specs.declared.error.CliError.{CliError}
use Rattle.cli_rows.specs.declared.error.CliError.TheVariants.{MismatchedColumns, IndexOutOfRange, Condition, Memory}

-- an index is out of range, or an allocation failed
abbrev pub IsIndexError : {A : Type 0} → CliError → Option A → Type 0
IsIndexError IndexOutOfRange found = found ≡ None
IsIndexError Memory found = Unit {0}
IsIndexError error found = ⊥

-- the condition has an error; the columns of a batch do not match the schema; an index is out of range; or an allocation failed
abbrev pub IsRequestError : CliError → RequestTree → TableTree → Type 0
IsRequestError (Condition error) q t = request_error q t.schema.fields ≡ Some (Condition error)
IsRequestError MismatchedColumns q t = (request_error q t.schema.fields ≡ None) × (MatchesSchema t → ⊥)
IsRequestError IndexOutOfRange q t = (request_error q t.schema.fields ≡ None) × (spec_request_text q t ≡ None)
IsRequestError Memory q t = Unit {0}
IsRequestError error q t = ⊥
