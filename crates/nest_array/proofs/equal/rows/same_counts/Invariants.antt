use Rattle.std.proofs.Common.{◌≡◌, ◌+◌}
use Rattle.nest_array.specs.RowSlots.{SameBounds, bound_of}
use Rattle.nest_array.proofs.equal.rows.same_counts.Given as goal

abbrev pub invariant-loop-k : goal.invariant-loop-k
invariant-loop-k g l =
    record {
      same : SameBounds (g.R.Rows.layout l.xs) l.o (g.S.Rows.layout l.ys) l.p l.k;
      counted : bound_of (g.R.Rows.layout l.xs) l.o + l.total ≡ bound_of (g.R.Rows.layout l.xs) (l.o + l.k);
      comparisons : l.steps ≡ l.initial.steps;
    }
