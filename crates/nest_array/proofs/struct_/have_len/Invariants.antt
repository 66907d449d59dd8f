use Rattle.std.proofs.Common.{◌↔◌, drop}
use Rattle.nest_model.specs.Fits.{EachLen}
use Rattle.nest_array.specs.Seen.{layouts_of}
use Rattle.nest_array.proofs.struct_.have_len.Given as goal

abbrev pub invariant-loop-i : goal.invariant-loop-i
invariant-loop-i l = EachLen (layouts_of l.arrays) l.n ↔ EachLen (layouts_of (drop l.i l.arrays)) l.n
