use Rattle.std.proofs.Common.{◌++◌, ◌∷◌, [], ap, arith, rules}
use Rattle.std.proofs.Output.{has_written_append, has_written_of_eq}
use Rattle.json_write.proofs.Escapes.{escape-hex}
use Rattle.json_write.proofs.quoting.write_bytes.Goals as goal

pub returns : goal.returns
returns g c plain ok =
    let one = c.write_str.ensures.writes plain (search rules) in
    let two = c.write_hex_digits.ensures one.plain (search rules) in
    let three = c.write_str-2.ensures.writes two.plain ok in
    has_written_of_eq _ _ _ _ _ (ap (λ x. 34 ∷ (x ++ 34 ∷ [])) (escape-hex c.args.bytes.now (λ i. omega (arith, c.type_inv.bytes i))))
    (has_written_append _ _ _ _ _ _ (has_written_append _ _ _ _ _ _ one two) three)
