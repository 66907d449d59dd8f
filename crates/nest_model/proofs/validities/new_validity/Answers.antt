use Rattle.nest_model.specs.ValidityLaws.{len-with_validity, type-with_validity, validity-with_validity, taken-fits, taken-array}
use Rattle.nest_model.proofs.validities.new_validity.Goals as goal

pub returns-clause-length : goal.returns-clause-length
returns-clause-length c = len-with_validity

pub returns-clause-data_type : goal.returns-clause-data_type
returns-clause-data_type c = type-with_validity

pub returns-clause-validity : goal.returns-clause-validity
returns-clause-validity c = validity-with_validity

pub returns-clause-fits : goal.returns-clause-fits
returns-clause-fits c = taken-fits

pub returns-clause-array : goal.returns-clause-array
returns-clause-array c = taken-array
