use Rattle.nest_model.specs.NullnessLaws.{null_count-bits, null_count-none, null_count-null}
use Rattle.nest_model.proofs.validities.null_counts.Goals as goal

pub returns-clause-of_bits : goal.returns-clause-of_bits
returns-clause-of_bits c = null_count-bits

pub returns-clause-of_none : goal.returns-clause-of_none
returns-clause-of_none c = null_count-none

pub returns-clause-of_nulls : goal.returns-clause-of_nulls
returns-clause-of_nulls c = null_count-null
