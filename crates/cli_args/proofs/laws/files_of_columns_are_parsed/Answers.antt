use Rattle.std.proofs.Common.{refl}
use Rattle.clap.proofs.OnLiterals.{clap_on_literals}
use Rattle.cli_args.proofs.laws.files_of_columns_are_parsed.Goals as goal

pub returns-clause-file : goal.returns-clause-file
unfolding clap_on_literals
returns-clause-file c = (refl, refl)

pub returns-clause-both : goal.returns-clause-both
unfolding clap_on_literals
returns-clause-both c = (refl, refl)
