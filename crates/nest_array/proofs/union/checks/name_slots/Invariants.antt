use Rattle.std.proofs.Common.{ℕ, ◌<◌, pos, get_or}
use Rattle.nest_model.specs.Fits.{Names, child_len}
use Rattle.nest_array.specs.Positions.{meant}
use Rattle.nest_array.specs.Seen.{layouts_of}
use Rattle.nest_array.proofs.union.checks.name_slots.Given as goal

abbrev pub invariant-loop-i : goal.invariant-loop-i
invariant-loop-i l = (j : ℕ) → j < l.i → Names (get_or l.offsets j (pos 0)) (child_len (layouts_of l.fields) (meant l.table (get_or l.types j (pos 0))))
