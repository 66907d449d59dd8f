use Rattle.std.proofs.Common.{◌≡◌}
use Rattle.nest_model.specs.Meaning.{run, slot}
use Rattle.nest_array.proofs.equal.flat.each_same_slot.Given as goal

abbrev pub invariant-loop-k : goal.invariant-loop-k
invariant-loop-k g l =
    record {
      same : run (slot (g.A.FlatArray.layout l.a)) l.o l.k ≡ run (slot (g.A.FlatArray.layout l.b)) l.p l.k;
      comparisons : l.steps ≡ l.initial.steps;
    }
