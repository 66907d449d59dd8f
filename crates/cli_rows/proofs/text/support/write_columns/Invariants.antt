use Rattle.std.proofs.Common.{◌≡◌, map, take}
use Rattle.std.specs.Fmt.{HasWritten, IsPlainFormatter}
use Rattle.nest_memory.specs.TypeOf.{field_of}
use Rattle.ipc_schema.specs.FieldSupport.{field_support_of}
use Rattle.cli_rows.specs.SupportText.{text_of_columns}
use Rattle.cli_rows.proofs.Support.{rest_of}
use Rattle.cli_rows.proofs.text.support.write_columns.Given as goal

abbrev pub invariant-loop-column : goal.invariant-loop-column
invariant-loop-column g l =
    (IsPlainFormatter l.initial.f → HasWritten g.W.Write.write_str_gives l.initial.f (text_of_columns (map field_support_of (take l.column-index l.columns)) (map field_of l.fields)) l.f)
    × (map field_of l.rest ≡ rest_of (map field_support_of (take l.column-index l.columns)) (map field_of l.fields))
