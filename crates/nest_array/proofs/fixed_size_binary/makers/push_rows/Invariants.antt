use Rattle.std.proofs.Common.{take}
use Rattle.nest_array.specs.FixedBytes.{IsMadeOf}
use Rattle.nest_array.proofs.fixed_size_binary.makers.push_rows.Given as goal

abbrev pub invariant-loop-item : goal.invariant-loop-item
invariant-loop-item g l = IsMadeOf g.row.N (take l.item-index l.items) l.made
