use Rattle.ipc.specs.UnionOffsetExamples.{are_dense}
use Rattle.ipc.proofs.laws.union_offsets_are_checked.Goals as goal

pub returns : goal.returns
returns c = are_dense
