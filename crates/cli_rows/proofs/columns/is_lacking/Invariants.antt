use Rattle.std.proofs.Common.{◌≡◌, map}
use Rattle.nest_memory.specs.TypeOf.{field_of}
use Rattle.cli_rows.specs.ColumnNames.{lacks_name}
use Rattle.cli_rows.proofs.UnknownNames.{lacks_from}
use Rattle.cli_rows.proofs.columns.is_lacking.Given as goal

abbrev pub invariant-loop-field : goal.invariant-loop-field
invariant-loop-field l = lacks_name l.name (map field_of l.fields) ≡ lacks_from l.name l.fields l.field-index
