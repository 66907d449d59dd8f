use Rattle.std.proofs.Common.{refl}
use Rattle.cli_args.proofs.OnTexts.{on_texts}
use Rattle.cli_args.proofs.condition_laws.null_tests_are_parsed.Goals as goal

pub returns-clause-null : goal.returns-clause-null
unfolding on_texts
returns-clause-null c = refl

pub returns-clause-value : goal.returns-clause-value
unfolding on_texts
returns-clause-value c = refl

pub returns-clause-negation : goal.returns-clause-negation
unfolding on_texts
returns-clause-negation c = refl
