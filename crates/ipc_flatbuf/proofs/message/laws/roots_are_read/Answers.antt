use Rattle.ipc_flatbuf.specs.RootExamples.{version_5, version_4, later}
use Rattle.ipc_flatbuf.proofs.message.laws.roots_are_read.Goals as goal

pub returns-clause-version_5 : goal.returns-clause-version_5
returns-clause-version_5 c = version_5

pub returns-clause-version_4 : goal.returns-clause-version_4
returns-clause-version_4 c = version_4

pub returns-clause-later : goal.returns-clause-later
returns-clause-later c = later
