use Rattle.std.proofs.Common.{ap, flat_map, refl, rules}
use Rattle.std.proofs.Output.{has_written_append, has_written_of_eq}
use Rattle.std.proofs.lemmas.List.{take_all}
use Rattle.json_write.specs.JsonText.{hex_byte}
use Rattle.json_write.proofs.Escapes.{more-text}
use Rattle.json_write.proofs.quoting.write_hex_digits.Goals as goal

pub loop-byte-preserved : goal.loop-byte-preserved
loop-byte-preserved g c plain =
    let done = c.loop-byte.invariant plain in
    let one = c.write_hex.ensures done.plain (search rules) in
    has_written_of_eq _ _ _ _ _ (more-text hex_byte c.args.bytes.now c.loop-byte.byte-index _ c.loop-byte-test.true refl) (has_written_append _ _ _ _ _ _ done one)

pub returns : goal.returns
returns g c plain ok =
    has_written_of_eq _ _ _ _ _ (ap (flat_map hex_byte) (take_all c.loop-byte.byte-index c.args.bytes.now c.loop-byte-test.false)) (c.loop-byte.invariant plain)
