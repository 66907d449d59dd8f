use Rattle.std.proofs.Common.{refl}
use Rattle.cli_args.proofs.OnTexts.{on_texts}
use Rattle.cli_args.proofs.condition_laws.deep_conditions_are_refused.Goals as goal

pub returns-clause-parentheses : goal.returns-clause-parentheses
unfolding on_texts
returns-clause-parentheses c = refl

pub returns-clause-deepest : goal.returns-clause-deepest
unfolding on_texts
returns-clause-deepest c = refl
