use Rattle.nest_concat.proofs.KeyExamples.{equal-fits, first-passes, last-fits, limit-passes, null-fits}
use Rattle.nest_concat.proofs.examples.last_keys.Goals as goal

pub returns-clause-last : goal.returns-clause-last
returns-clause-last c = last-fits

pub returns-clause-past : goal.returns-clause-past
returns-clause-past c = first-passes

pub returns-clause-null_key : goal.returns-clause-null_key
returns-clause-null_key c = null-fits

pub returns-clause-limit : goal.returns-clause-limit
returns-clause-limit c = limit-passes

pub returns-clause-equal : goal.returns-clause-equal
returns-clause-equal c = equal-fits
