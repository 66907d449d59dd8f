use Rattle.cli_rows.proofs.Truths.{not-and, not-not, not-or}
use Rattle.cli_rows.proofs.condition_laws.truths_are_negated.Goals as goal

pub returns-clause-conjunction : goal.returns-clause-conjunction
returns-clause-conjunction c = not-and

pub returns-clause-disjunction : goal.returns-clause-disjunction
returns-clause-disjunction c = not-or

pub returns-clause-twice : goal.returns-clause-twice
returns-clause-twice c = not-not
