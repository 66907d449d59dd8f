use Rattle.std.proofs.Common.{◌≡◌, map}
use Rattle.nest_memory.specs.TypeOf.{field_of}
use Rattle.cli_rows.specs.ColumnNames.{unknown_name}
use Rattle.cli_rows.proofs.UnknownNames.{unknown_from}
use Rattle.cli_rows.proofs.columns.unknown_in.Given as goal

abbrev pub invariant-loop-i : goal.invariant-loop-i
invariant-loop-i l = unknown_name (map (λ n. n.now) l.names) (map field_of l.fields) ≡ unknown_from l.names (map field_of l.fields) l.i
