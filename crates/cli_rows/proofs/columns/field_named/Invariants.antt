use Rattle.std.proofs.Common.{◌≡◌, drop, map}
use Rattle.std.specs.Prelude.{string_bytes}
use Rattle.nest_memory.specs.TypeOf.{field_of}
use Rattle.cli_rows.specs.ColumnFields.{spec_field_named}
use Rattle.cli_rows.proofs.columns.field_named.Given as goal

abbrev pub invariant-loop-field : goal.invariant-loop-field
invariant-loop-field l = spec_field_named (string_bytes l.name) (map field_of l.fields) ≡ spec_field_named (string_bytes l.name) (map field_of (drop l.field-index l.fields))
