use Rattle.std.proofs.Common.{refl}
use Rattle.cli_args.proofs.OnTexts.{on_texts}
use Rattle.cli_args.proofs.condition_laws.invalid_tokens_are_refused.Goals as goal

pub returns-clause-character : goal.returns-clause-character
unfolding on_texts
returns-clause-character c = refl

pub returns-clause-sign : goal.returns-clause-sign
unfolding on_texts
returns-clause-sign c = refl

pub returns-clause-point : goal.returns-clause-point
unfolding on_texts
returns-clause-point c = refl

pub returns-clause-string : goal.returns-clause-string
unfolding on_texts
returns-clause-string c = refl

pub returns-clause-escape : goal.returns-clause-escape
unfolding on_texts
returns-clause-escape c = refl

pub returns-clause-name : goal.returns-clause-name
unfolding on_texts
returns-clause-name c = refl

pub returns-clause-digits : goal.returns-clause-digits
unfolding on_texts
returns-clause-digits c = refl
