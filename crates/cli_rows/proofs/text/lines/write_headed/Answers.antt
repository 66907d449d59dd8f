use Rattle.std.proofs.Common.{rules, arith}
use Rattle.std.proofs.Output.{has_written_append, has_written_of_eq}
use Rattle.cli_rows.proofs.Lines.{line-next}
use Rattle.cli_rows.proofs.text.lines.write_headed.Goals as goal

pub loop-k-preserved : goal.loop-k-preserved
loop-k-preserved g c plain =
    let a = c.args.records.now in
    let done = c.loop-k.invariant plain in
    let one = c.write_struct_slot.ensures done.plain (search rules) in
    let two = c.write_str.ensures.writes one.plain (search rules) in
    has_written_of_eq _ _ _ _ _ (line-next a c.args.o c.loop-k.k (omega arith))
    (has_written_append _ _ _ _ _ _ (has_written_append _ _ _ _ _ _ done one) two)
