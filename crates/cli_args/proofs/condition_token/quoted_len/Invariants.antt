use Rattle.std.proofs.Common.{◌≡◌, ◌-◌, ◌≤◌, drop, length}
use Rattle.cli_args.specs.ConditionTokens.{quoted_length}
use Rattle.cli_args.proofs.Quotes.{later}
use Rattle.cli_args.proofs.condition_token.quoted_len.Given as goal

abbrev pub invariant-loop-i : goal.invariant-loop-i
invariant-loop-i l = (l.i ≤ length l.text) × (later l.i (quoted_length l.quote (drop l.i l.text)) ≡ quoted_length l.quote l.text)

abbrev pub decreases-loop-i : goal.decreases-loop-i
decreases-loop-i l = length l.text - l.i
