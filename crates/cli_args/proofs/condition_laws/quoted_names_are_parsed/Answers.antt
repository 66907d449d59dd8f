use Rattle.std.proofs.Common.{refl}
use Rattle.cli_args.proofs.OnTexts.{on_texts}
use Rattle.cli_args.proofs.condition_laws.quoted_names_are_parsed.Goals as goal

pub returns-clause-space : goal.returns-clause-space
unfolding on_texts
returns-clause-space c = refl

pub returns-clause-quote : goal.returns-clause-quote
unfolding on_texts
returns-clause-quote c = refl

pub returns-clause-keyword : goal.returns-clause-keyword
unfolding on_texts
returns-clause-keyword c = refl

pub returns-clause-bare : goal.returns-clause-bare
unfolding on_texts
returns-clause-bare c = refl
