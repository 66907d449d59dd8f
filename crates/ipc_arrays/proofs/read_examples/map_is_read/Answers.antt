use Rattle.ipc_arrays.specs.ReadExamples.{maps_are, short_maps_are, no_maps_are}
use Rattle.ipc_arrays.proofs.read_examples.map_is_read.Goals as goal

pub returns-clause-read : goal.returns-clause-read
returns-clause-read c = maps_are

pub returns-clause-short : goal.returns-clause-short
returns-clause-short c = short_maps_are

pub returns-clause-unlike : goal.returns-clause-unlike
returns-clause-unlike c = no_maps_are
