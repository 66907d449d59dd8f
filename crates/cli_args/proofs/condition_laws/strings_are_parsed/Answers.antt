use Rattle.std.proofs.Common.{refl}
use Rattle.cli_args.proofs.OnTexts.{on_texts}
use Rattle.cli_args.proofs.condition_laws.strings_are_parsed.Goals as goal

pub returns-clause-word : goal.returns-clause-word
unfolding on_texts
returns-clause-word c = refl

pub returns-clause-quote : goal.returns-clause-quote
unfolding on_texts
returns-clause-quote c = refl

pub returns-clause-quotes : goal.returns-clause-quotes
unfolding on_texts
returns-clause-quotes c = refl

pub returns-clause-empty : goal.returns-clause-empty
unfolding on_texts
returns-clause-empty c = refl
