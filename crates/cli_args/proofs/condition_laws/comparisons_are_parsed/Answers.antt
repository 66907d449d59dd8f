use Rattle.std.proofs.Common.{refl}
use Rattle.cli_args.proofs.OnTexts.{on_texts}
use Rattle.cli_args.proofs.condition_laws.comparisons_are_parsed.Goals as goal

pub returns-clause-equal : goal.returns-clause-equal
unfolding on_texts
returns-clause-equal c = refl

pub returns-clause-not_equal : goal.returns-clause-not_equal
unfolding on_texts
returns-clause-not_equal c = refl

pub returns-clause-different : goal.returns-clause-different
unfolding on_texts
returns-clause-different c = refl

pub returns-clause-less : goal.returns-clause-less
unfolding on_texts
returns-clause-less c = refl

pub returns-clause-at_most : goal.returns-clause-at_most
unfolding on_texts
returns-clause-at_most c = refl

pub returns-clause-greater : goal.returns-clause-greater
unfolding on_texts
returns-clause-greater c = refl

pub returns-clause-at_least : goal.returns-clause-at_least
unfolding on_texts
returns-clause-at_least c = refl
