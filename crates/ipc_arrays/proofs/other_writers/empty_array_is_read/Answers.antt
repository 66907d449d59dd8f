use Rattle.ipc_arrays.specs.OtherWriters.{no_strings_are, no_bytes_are, no_maps_are, inner_lists_are}
use Rattle.ipc_arrays.proofs.other_writers.empty_array_is_read.Goals as goal

pub returns-clause-utf8 : goal.returns-clause-utf8
returns-clause-utf8 c = no_strings_are

pub returns-clause-binary : goal.returns-clause-binary
returns-clause-binary c = no_bytes_are

pub returns-clause-map : goal.returns-clause-map
returns-clause-map c = no_maps_are

pub returns-clause-inner : goal.returns-clause-inner
returns-clause-inner c = inner_lists_are
