use Rattle.std.proofs.Common.{rules}
use Rattle.std.proofs.Output.{has_written_append, has_written_of_eq}
use Rattle.nest_flat.specs.AnyNative.{native_numbers}
use Rattle.json_write.proofs.PlainTexts.{quoted-text}
use Rattle.json_write.proofs.native.write_quoted_text.Goals as goal

pub returns : goal.returns
returns g c plain ok =
    let one = c.write_str.ensures.writes plain (search rules) in
    let two = c.write_text.ensures one.plain (search rules) in
    let three = c.write_str-2.ensures.writes two.plain ok in
    has_written_of_eq _ _ _ _ _ (quoted-text c.args.format (native_numbers c.args.value) c.requires.text)
    (has_written_append _ _ _ _ _ _ (has_written_append _ _ _ _ _ _ one two) three)
