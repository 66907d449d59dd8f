use Rattle.ipc_arrays.specs.FlatErrorExamples.{negative_slots, more_nulls, other_rows, no_validity, validity_outside, other_nulls, no_values, short_values, negative_offset, falling_offset, data_outside}
use Rattle.ipc_arrays.proofs.read_examples.invalid_flat_columns_fail.Goals as goal

pub returns-clause-negative_slots : goal.returns-clause-negative_slots
returns-clause-negative_slots c = negative_slots

pub returns-clause-more_nulls : goal.returns-clause-more_nulls
returns-clause-more_nulls c = more_nulls

pub returns-clause-other_rows : goal.returns-clause-other_rows
returns-clause-other_rows c = other_rows

pub returns-clause-no_validity : goal.returns-clause-no_validity
returns-clause-no_validity c = no_validity

pub returns-clause-validity_outside : goal.returns-clause-validity_outside
returns-clause-validity_outside c = validity_outside

pub returns-clause-other_nulls : goal.returns-clause-other_nulls
returns-clause-other_nulls c = other_nulls

pub returns-clause-no_values : goal.returns-clause-no_values
returns-clause-no_values c = no_values

pub returns-clause-short_values : goal.returns-clause-short_values
returns-clause-short_values c = short_values

pub returns-clause-negative_offset : goal.returns-clause-negative_offset
returns-clause-negative_offset c = negative_offset

pub returns-clause-falling_offset : goal.returns-clause-falling_offset
returns-clause-falling_offset c = falling_offset

pub returns-clause-data_outside : goal.returns-clause-data_outside
returns-clause-data_outside c = data_outside
