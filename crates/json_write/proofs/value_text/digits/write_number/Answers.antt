use Rattle.std.proofs.Common.{◌∙◌, arith}
use Rattle.std.proofs.Output.{has_written_of_eq}
use Rattle.json_write.proofs.DigitFacts.{decimal_is_number}
use Rattle.json_write.proofs.value_text.digits.write_number.Goals as goal

pub returns : goal.returns
returns g c plain ok =
    has_written_of_eq _ _ _ _ _ (c.format.ensures.text ∙ decimal_is_number c.args.number (omega arith)) (c.write_str.ensures.writes plain ok)
