use Rattle.std.proofs.Common.{◌∙◌, rules, sym}
use Rattle.std.proofs.Output.{has_written_append, has_written_of_eq}
use Rattle.json_write.proofs.FloatTexts.{name-text}
use Rattle.json_write.proofs.floats.write_bits.Goals as goal

pub returns : goal.returns
returns g c plain ok =
    let one = c.write_str.ensures.writes plain (search rules) in
    let two = c.write_float-2.ensures one.plain (search rules) in
    let three = c.write_str-2.ensures.writes two.plain ok in
    has_written_of_eq _ _ _ _ _ (name-text g.F.RawFloat.format c.args.bits (sym c.is_finite.ensures ∙ c.if-is_finite.false))
    (has_written_append _ _ _ _ _ _ (has_written_append _ _ _ _ _ _ one two) three)
