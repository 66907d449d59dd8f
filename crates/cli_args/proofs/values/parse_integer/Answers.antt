use Rattle.std.proofs.Common.{◌∙◌}
use Rattle.cli_args.proofs.Integers.{integer_read}
use Rattle.cli_args.proofs.values.parse_integer.Goals as goal

pub returns : goal.returns
returns c = c.unwrap_or.ensures ∙ integer_read c.args.text.now c.parse.result c.parse.ensures.value.0
