use Rattle.cli_rows.proofs.TimeTexts.{parsed-day}
use Rattle.cli_rows.proofs.select.time_literals.day_of_text.Goals as goal

pub returns : goal.returns
returns c = parsed-day c.args.text.now c.date_of_32_bits.result c.date_of_32_bits.ensures
