use Rattle.ipc_schema.specs.FloatExamples as examples
use Rattle.ipc_schema.proofs.laws.floats_are_read.Goals as goal

pub returns-clause-fields : goal.returns-clause-fields
returns-clause-fields c = examples.are_floats

pub returns-clause-reserved : goal.returns-clause-reserved
returns-clause-reserved c = examples.is_reserved

pub returns-clause-bytes : goal.returns-clause-bytes
returns-clause-bytes c = examples.are_single_bytes

pub returns-clause-checks : goal.returns-clause-checks
returns-clause-checks c = examples.are_checked_floats
