use Rattle.std.proofs.Common.{map, take}
use Rattle.std.specs.Fmt.{HasWritten, IsPlainFormatter}
use Rattle.nest_memory.specs.TypeOf.{field_of}
use Rattle.cli_rows.specs.Text.{text_of_schema}
use Rattle.cli_rows.proofs.text.lines.write_columns.Given as goal

abbrev pub invariant-loop-field : goal.invariant-loop-field
invariant-loop-field g l = IsPlainFormatter l.initial.f → HasWritten g.W.Write.write_str_gives l.initial.f (text_of_schema (map field_of (take l.field-index l.fields))) l.f
