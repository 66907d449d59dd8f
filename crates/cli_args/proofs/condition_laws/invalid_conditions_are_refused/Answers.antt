use Rattle.std.proofs.Common.{refl}
use Rattle.cli_args.proofs.OnTexts.{on_texts}
use Rattle.cli_args.proofs.condition_laws.invalid_conditions_are_refused.Goals as goal

pub returns-clause-none : goal.returns-clause-none
unfolding on_texts
returns-clause-none c = refl

pub returns-clause-column : goal.returns-clause-column
unfolding on_texts
returns-clause-column c = refl

pub returns-clause-literal : goal.returns-clause-literal
unfolding on_texts
returns-clause-literal c = refl

pub returns-clause-null_literal : goal.returns-clause-null_literal
unfolding on_texts
returns-clause-null_literal c = refl

pub returns-clause-null : goal.returns-clause-null
unfolding on_texts
returns-clause-null c = refl

pub returns-clause-not_null : goal.returns-clause-not_null
unfolding on_texts
returns-clause-not_null c = refl

pub returns-clause-parenthesis : goal.returns-clause-parenthesis
unfolding on_texts
returns-clause-parenthesis c = refl

pub returns-clause-end : goal.returns-clause-end
unfolding on_texts
returns-clause-end c = refl

pub returns-clause-closing : goal.returns-clause-closing
unfolding on_texts
returns-clause-closing c = refl

pub returns-clause-first : goal.returns-clause-first
unfolding on_texts
returns-clause-first c = refl
