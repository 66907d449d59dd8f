use Rattle.std.proofs.Common.{take}
use Rattle.nest_array.proofs.Tables.{IsLast}
use Rattle.nest_array.proofs.union.table.last_position.Given as goal

abbrev pub invariant-loop-k : goal.invariant-loop-k
invariant-loop-k l = IsLast (take l.k l.ids) l.kind l.place
