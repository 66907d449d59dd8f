use Rattle.cli_rows.proofs.TimeTexts.{parsed-timestamp}
use Rattle.cli_rows.proofs.select.time_literals.timestamp_of_text.Goals as goal

pub returns : goal.returns
returns c = parsed-timestamp c.args.unit c.args.utc c.args.text.now c.parse_timestamp.result c.parse_timestamp.ensures
