use Rattle.std.proofs.Common.{◌≡◌, map}
use Rattle.std.specs.Prelude.{string_bytes}
use Rattle.nest_memory.specs.TypeOf.{field_of}
use Rattle.cli_rows.specs.ColumnFields.{spec_column_index}
use Rattle.cli_rows.proofs.ByName.{index_from}
use Rattle.cli_rows.proofs.columns.column_index.Given as goal

abbrev pub invariant-loop-i : goal.invariant-loop-i
invariant-loop-i l = spec_column_index (string_bytes l.name) (map field_of l.fields) ≡ index_from (string_bytes l.name) l.fields l.i
