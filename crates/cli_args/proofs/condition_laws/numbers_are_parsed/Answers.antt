use Rattle.std.proofs.Common.{refl}
use Rattle.cli_args.proofs.OnTexts.{on_texts}
use Rattle.cli_args.proofs.condition_laws.numbers_are_parsed.Goals as goal

pub returns-clause-negative : goal.returns-clause-negative
unfolding on_texts
returns-clause-negative c = refl

pub returns-clause-decimal : goal.returns-clause-decimal
unfolding on_texts
returns-clause-decimal c = refl

pub returns-clause-scale : goal.returns-clause-scale
unfolding on_texts
returns-clause-scale c = refl

pub returns-clause-zeros : goal.returns-clause-zeros
unfolding on_texts
returns-clause-zeros c = refl

pub returns-clause-longest : goal.returns-clause-longest
unfolding on_texts
returns-clause-longest c = refl
