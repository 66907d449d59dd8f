use Rattle.std.proofs.Common.{take}
use Rattle.nest_array.specs.Seen.{layout_of}
use Rattle.nest_concat.specs.Lookups.{HaveValues}
use Rattle.nest_concat.proofs.dictionary.have_values.Given as goal

abbrev pub invariant-loop-window : goal.invariant-loop-window
invariant-loop-window l = HaveValues (layout_of l.values) (take l.window-index l.windows)
