use Rattle.cli_rows.proofs.TimeTexts.{parsed-time}
use Rattle.cli_rows.proofs.select.time_literals.time_of_text.Goals as goal

pub returns : goal.returns
returns c = parsed-time c.args.unit c.args.text.now c.time_of_day.result c.time_of_day.ensures
