use Rattle.std.proofs.Common.{◌↔◌, drop}
use Rattle.nest_model.specs.Fits.{EachCovers}
use Rattle.nest_array.specs.Seen.{layouts_of}
use Rattle.nest_array.proofs.union.checks.cover.Given as goal

abbrev pub invariant-loop-i : goal.invariant-loop-i
invariant-loop-i l = EachCovers (layouts_of l.fields) l.n ↔ EachCovers (layouts_of (drop l.i l.fields)) l.n
