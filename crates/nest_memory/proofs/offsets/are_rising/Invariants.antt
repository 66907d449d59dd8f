use Rattle.std.proofs.Common.{◌≡◌, drop, map}
use Rattle.nest_memory.specs.Rising.{are_offsets, rises_from}
use Rattle.nest_memory.proofs.offsets.are_rising.Given as goal

abbrev pub invariant-loop-x : goal.invariant-loop-x
invariant-loop-x g l = are_offsets (map g.O.Offset.value l.offsets) ≡ rises_from l.low (map g.O.Offset.value (drop l.x-index l.offsets))
