use Rattle.std.proofs.Common.{◌+◌, ◌*◌}
use Rattle.cli_args.proofs.condition_parser.+conditions.Given as goal

abbrev pub decreases-or_at : goal.decreases-or_at
decreases-or_at l = 4 * l.levels

abbrev pub decreases-or_joined : goal.decreases-or_joined
decreases-or_joined l = 4 * l.levels + 2

abbrev pub decreases-and_at : goal.decreases-and_at
decreases-and_at l = 4 * l.levels

abbrev pub decreases-and_joined : goal.decreases-and_joined
decreases-and_joined l = 4 * l.levels + 2

abbrev pub decreases-not_at : goal.decreases-not_at
decreases-not_at l = 4 * l.levels

abbrev pub decreases-not_with : goal.decreases-not_with
decreases-not_with l = 4 * l.levels + 2

abbrev pub decreases-negation : goal.decreases-negation
decreases-negation l = 4 * l.levels + 1

abbrev pub decreases-parenthesized : goal.decreases-parenthesized
decreases-parenthesized l = 4 * l.levels + 1
