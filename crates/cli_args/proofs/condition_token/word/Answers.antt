use Rattle.std.proofs.Common.{ap, ◌∙◌}
use Rattle.std.specs.List.{prefix_len}
use Rattle.cli_args.specs.ConditionTokens.{is_name_byte}
use Rattle.cli_args.proofs.Runs.{name-ascii, run-ends}
use Rattle.cli_args.proofs.condition_token.word.Goals as goal

pub split_at-requires : goal.split_at-requires
split_at-requires c = run-ends is_name_byte name-ascii c.args.text.now c.name_len.result c.utf8.text (c.name_len.ensures ∙ ap (prefix_len is_name_byte) c.as_bytes.ensures.value)
