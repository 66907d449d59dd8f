use Rattle.std.proofs.Common.{refl}
use Rattle.clap.proofs.OnLiterals.{clap_on_literals}
use Rattle.cli_args.proofs.laws.invalid_arguments_are_refused.Goals as goal

pub returns-clause-missing : goal.returns-clause-missing
unfolding clap_on_literals
returns-clause-missing c = refl

pub returns-clause-integer : goal.returns-clause-integer
unfolding clap_on_literals
returns-clause-integer c = refl

pub returns-clause-more : goal.returns-clause-more
unfolding clap_on_literals
returns-clause-more c = refl

pub returns-clause-value : goal.returns-clause-value
unfolding clap_on_literals
returns-clause-value c = refl

pub returns-clause-option : goal.returns-clause-option
unfolding clap_on_literals
returns-clause-option c = refl

pub returns-clause-before : goal.returns-clause-before
unfolding clap_on_literals
returns-clause-before c = refl
