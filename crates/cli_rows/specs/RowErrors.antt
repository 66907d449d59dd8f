-- Why the columns of record batches are not arrays of records.
use Rattle.cli_rows.specs.declared.error.CliError.{CliError}
use Rattle.cli_rows.specs.declared.error.CliError.TheVariants.{MismatchedColumns, Memory}

-- the columns do not match the schema, or an allocation failed
abbrev pub IsRowError : CliError → Type 0 → Type 0
IsRowError MismatchedColumns Match = Match → ⊥
IsRowError Memory Match = Unit {0}
IsRowError error Match = ⊥
