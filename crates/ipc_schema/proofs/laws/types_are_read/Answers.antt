use Rattle.ipc_schema.specs.TypeExamples as examples
use Rattle.ipc_schema.proofs.laws.types_are_read.Goals as goal

pub returns-clause-decimals : goal.returns-clause-decimals
returns-clause-decimals c = examples.decimals

pub returns-clause-times : goal.returns-clause-times
returns-clause-times c = examples.dates_times

pub returns-clause-zones : goal.returns-clause-zones
returns-clause-zones c = examples.timestamps_durations

pub returns-clause-intervals : goal.returns-clause-intervals
returns-clause-intervals c = examples.intervals

pub returns-clause-sizes : goal.returns-clause-sizes
returns-clause-sizes c = examples.fixed_size_binary

pub returns-clause-digits : goal.returns-clause-digits
returns-clause-digits c = examples.most_digits_are

pub returns-clause-precisions : goal.returns-clause-precisions
returns-clause-precisions c = examples.precisions
