use Rattle.nest_model.specs.Meaning.{len}
use Rattle.nest_array.specs.Seen.{layouts_of}
use Rattle.ipc.specs.UnionOffsets.{offset_past}
use Rattle.ipc.proofs.UnionOffsets.{NoneBefore}
use Rattle.ipc.proofs.union_offsets.slots_overflow.Given as goal

abbrev pub invariant-loop-i : goal.invariant-loop-i
invariant-loop-i l = NoneBefore (offset_past (layouts_of l.fields) l.more) l.i (len l.more)
