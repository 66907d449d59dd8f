use Rattle.std.proofs.Common.{◌≡◌, length, take}
use Rattle.nest_array.proofs.Tables.{HasIds}
use Rattle.nest_array.proofs.union.table.by_ids.Given as goal

abbrev pub invariant-loop-i : goal.invariant-loop-i
invariant-loop-i l = (length l.table ≡ 128) × HasIds l.table (take l.i l.ids)
