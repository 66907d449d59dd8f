use Rattle.std.proofs.Common.{refl}
use Rattle.clap.proofs.OnLiterals.{clap_on_literals}
use Rattle.cli_args.proofs.OnTexts.{on_texts}
use Rattle.cli_args.proofs.laws.invalid_conditions_are_refused.Goals as goal

pub returns-clause-missing : goal.returns-clause-missing
unfolding clap_on_literals on_texts
returns-clause-missing c = refl

pub returns-clause-literal : goal.returns-clause-literal
unfolding clap_on_literals on_texts
returns-clause-literal c = (refl, refl)

pub returns-clause-column : goal.returns-clause-column
unfolding clap_on_literals on_texts
returns-clause-column c = (refl, refl)
