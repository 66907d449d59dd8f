use Rattle.std.proofs.Common.{refl}
use Rattle.cli_args.proofs.OnTexts.{on_texts}
use Rattle.cli_args.proofs.condition_laws.conditions_have_precedences.Goals as goal

pub returns-clause-connectives : goal.returns-clause-connectives
unfolding on_texts
returns-clause-connectives c = refl

pub returns-clause-left : goal.returns-clause-left
unfolding on_texts
returns-clause-left c = refl

pub returns-clause-negation : goal.returns-clause-negation
unfolding on_texts
returns-clause-negation c = refl

pub returns-clause-comparison : goal.returns-clause-comparison
unfolding on_texts
returns-clause-comparison c = refl

pub returns-clause-chain : goal.returns-clause-chain
unfolding on_texts
returns-clause-chain c = refl
