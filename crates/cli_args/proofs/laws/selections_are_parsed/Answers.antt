use Rattle.std.proofs.Common.{refl}
use Rattle.clap.proofs.OnLiterals.{clap_on_literals}
use Rattle.cli_args.proofs.OnTexts.{on_texts}
use Rattle.cli_args.proofs.laws.selections_are_parsed.Goals as goal

pub returns-clause-indices : goal.returns-clause-indices
unfolding clap_on_literals on_texts
returns-clause-indices c = (refl, refl)

pub returns-clause-column : goal.returns-clause-column
unfolding clap_on_literals on_texts
returns-clause-column c = (refl, refl)

pub returns-clause-comparison : goal.returns-clause-comparison
unfolding clap_on_literals on_texts
returns-clause-comparison c = (refl, refl)
