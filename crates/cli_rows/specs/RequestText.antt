-- The text that a request prints of a table.
use Rattle.std.specs.Prelude.{ℕ, List, Option, Some, None, option_map}
use Rattle.cli_args.specs.Requests.{RequestTree, columns, rows}
use Rattle.cli_rows.specs.Selection.{selected_rows}
use Rattle.cli_rows.specs.Text.{text_of_schema, text_of_rows}
use Rattle.cli_rows.specs.declared.error.CliError.{CliError}
use Rattle.cli_rows.specs.ColumnNames.{spec_selection_error}
use Rattle.cli_rows.specs.Tables.{TableTree, record_rows}

-- None if there is an error
abbrev pub unless_error : {A : Type 0} → Option CliError → Option A → Option A
unless_error None found = found
unless_error (Some error) found = None

-- None if an index is out of range, or there is no boolean column of the name
abbrev pub spec_request_text : RequestTree → TableTree → Option (List ℕ)
spec_request_text columns t = Some (text_of_schema t.schema.fields)
spec_request_text (rows c) t = unless_error (spec_selection_error c t.schema.fields) (option_map text_of_rows (selected_rows c (record_rows t)))
