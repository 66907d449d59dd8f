use Rattle.std.proofs.Common.{refl}
use Rattle.clap.proofs.OnLiterals.{clap_on_literals}
use Rattle.cli_args.proofs.laws.infos_are_parsed.Goals as goal

pub returns-clause-file : goal.returns-clause-file
unfolding clap_on_literals
returns-clause-file c = (refl, refl)

pub returns-clause-stdin : goal.returns-clause-stdin
unfolding clap_on_literals
returns-clause-stdin c = (refl, refl)

pub returns-clause-more : goal.returns-clause-more
unfolding clap_on_literals
returns-clause-more c = refl

pub returns-clause-columns : goal.returns-clause-columns
unfolding clap_on_literals
returns-clause-columns c = refl
