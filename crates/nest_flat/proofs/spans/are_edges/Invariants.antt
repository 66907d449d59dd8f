use Rattle.std.specs.Prelude.{ℕ, ◌+◌, ◌-◌, ◌<◌, get_or}
use Rattle.std.specs.Str.{IsCharBoundary}
use Rattle.nest_model.specs.Part.{begin}
use Rattle.nest_flat.proofs.spans.are_edges.Given as goal

abbrev pub invariant-loop-i : goal.invariant-loop-i
invariant-loop-i g l = (k : ℕ) → k < l.i + 1 → IsCharBoundary l.text (get_or l.offsets k 0 - begin l.offsets 0)
