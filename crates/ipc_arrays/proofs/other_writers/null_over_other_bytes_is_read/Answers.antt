use Rattle.ipc_arrays.specs.OtherWriters.{null_bytes_are, null_text_are, valid_bytes_are}
use Rattle.ipc_arrays.proofs.other_writers.null_over_other_bytes_is_read.Goals as goal

pub returns-clause-rebuilt : goal.returns-clause-rebuilt
returns-clause-rebuilt c = null_bytes_are

pub returns-clause-kept : goal.returns-clause-kept
returns-clause-kept c = null_text_are

pub returns-clause-valid : goal.returns-clause-valid
returns-clause-valid c = valid_bytes_are
