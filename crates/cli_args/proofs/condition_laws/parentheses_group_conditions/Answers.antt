use Rattle.std.proofs.Common.{refl}
use Rattle.cli_args.proofs.OnTexts.{on_texts}
use Rattle.cli_args.proofs.condition_laws.parentheses_group_conditions.Goals as goal

pub returns-clause-disjunction : goal.returns-clause-disjunction
unfolding on_texts
returns-clause-disjunction c = refl

pub returns-clause-negation : goal.returns-clause-negation
unfolding on_texts
returns-clause-negation c = refl

pub returns-clause-nested : goal.returns-clause-nested
unfolding on_texts
returns-clause-nested c = refl
