use Rattle.std.proofs.Common.{refl}
use Rattle.clap.proofs.OnLiterals.{clap_on_literals}
use Rattle.cli_args.proofs.laws.slices_are_parsed.Goals as goal

pub returns-clause-rows : goal.returns-clause-rows
unfolding clap_on_literals
returns-clause-rows c = (refl, refl)

pub returns-clause-slice : goal.returns-clause-slice
unfolding clap_on_literals
returns-clause-slice c = (refl, refl)

pub returns-clause-head : goal.returns-clause-head
unfolding clap_on_literals
returns-clause-head c = (refl, refl)

pub returns-clause-cut : goal.returns-clause-cut
unfolding clap_on_literals
returns-clause-cut c = (refl, refl)
