use Rattle.std.proofs.Common.{◌≡◌, ◌+◌, drop}
use Rattle.std.specs.List.{prefix_len}
use Rattle.cli_args.specs.ConditionTokens.{is_name_byte}
use Rattle.cli_args.proofs.condition_token.name_len.Given as goal

abbrev pub invariant-loop-byte : goal.invariant-loop-byte
invariant-loop-byte l = (l.count ≡ l.byte-index) × (l.byte-index + prefix_len is_name_byte (drop l.byte-index l.text) ≡ prefix_len is_name_byte l.text)
