use Rattle.std.proofs.Common.{◌≡◌, take}
use Rattle.nest_model.specs.Meaning.{slots_of}
use Rattle.listcut_rows.specs.RowText.{rows_text}
use Rattle.listcut_rows.proofs.output.format_rows.Given as goal

abbrev pub invariant-loop-i : goal.invariant-loop-i
invariant-loop-i l = l.out.items ≡ rows_text (take l.i (slots_of l.rows))
