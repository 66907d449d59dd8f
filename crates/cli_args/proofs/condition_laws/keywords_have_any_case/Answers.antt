use Rattle.std.proofs.Common.{refl}
use Rattle.cli_args.proofs.OnTexts.{on_texts}
use Rattle.cli_args.proofs.condition_laws.keywords_have_any_case.Goals as goal

pub returns-clause-null : goal.returns-clause-null
unfolding on_texts
returns-clause-null c = refl

pub returns-clause-connectives : goal.returns-clause-connectives
unfolding on_texts
returns-clause-connectives c = refl

pub returns-clause-yes : goal.returns-clause-yes
unfolding on_texts
returns-clause-yes c = refl

pub returns-clause-no : goal.returns-clause-no
unfolding on_texts
returns-clause-no c = refl

pub returns-clause-space : goal.returns-clause-space
unfolding on_texts
returns-clause-space c = refl
