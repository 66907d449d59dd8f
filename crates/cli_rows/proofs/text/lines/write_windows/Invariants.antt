use Rattle.std.proofs.Common.{take}
use Rattle.std.specs.Fmt.{HasWritten, IsPlainFormatter}
use Rattle.std.specs.List.{flat_map}
use Rattle.cli_rows.specs.Rows.{rows_in}
use Rattle.cli_rows.specs.Text.{text_of_rows}
use Rattle.cli_rows.proofs.text.lines.write_windows.Given as goal

abbrev pub invariant-loop-window : goal.invariant-loop-window
invariant-loop-window g l = IsPlainFormatter l.initial.f → HasWritten g.W.Write.write_str_gives l.initial.f (text_of_rows (flat_map rows_in (take l.window-index l.windows))) l.f
