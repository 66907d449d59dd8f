use Rattle.std.proofs.Common.{◌≡◌, ◌++◌, take}
use Rattle.nest_memory.specs.Sublist.{sublist}
use Rattle.nest_model.specs.Meaning.{slots_of}
use Rattle.listcut_rows.proofs.RowTexts.{joined_items}
use Rattle.listcut_rows.proofs.output.push_items.Given as goal

abbrev pub invariant-loop-i : goal.invariant-loop-i
invariant-loop-i l = l.out.items ≡ l.initial.out.items ++ joined_items (take l.i (sublist (slots_of l.items) l.start l.count))
