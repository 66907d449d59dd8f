use Rattle.std.specs.Fmt.{HasWritten, IsPlainFormatter}
use Rattle.nest_array.specs.Seen.{layout_of}
use Rattle.nest_array.specs.WindowParts.{window_parts}
use Rattle.cli_rows.specs.Rows.{rows_in}
use Rattle.cli_rows.specs.Text.{text_of_rows}
use Rattle.cli_rows.proofs.text.lines.write_run.Given as goal

abbrev pub invariant-loop-k : goal.invariant-loop-k
invariant-loop-k g l = IsPlainFormatter l.initial.f → HasWritten g.W.Write.write_str_gives l.initial.f (text_of_rows (rows_in (window_parts (layout_of l.array) l.o l.k))) l.f
