use Rattle.std.proofs.Common.{◌≡◌, ◌++◌, take}
use Rattle.nest_memory.specs.Rising.{ends_from, last_of}
use Rattle.nest_memory.proofs.offsets.Offsets.try_extend_from_lengths.Given as goal

abbrev pub invariant-loop-length : goal.invariant-loop-length
invariant-loop-length g l = l.self ≡ l.fn.self ++ ends_from (last_of l.fn.self) (take l.length-index l.lengths)
