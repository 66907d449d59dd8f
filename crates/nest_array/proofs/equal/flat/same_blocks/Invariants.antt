use Rattle.std.proofs.Common.{◌≡◌, ◌+◌, ◌-◌, ◌≤◌}
use Rattle.nest_model.specs.Meaning.{run, slot}
use Rattle.nest_flat.specs.BareSlots.{bare}
use Rattle.nest_array.proofs.equal.flat.same_blocks.Given as goal

abbrev pub invariant-loop-done : goal.invariant-loop-done
invariant-loop-done g l =
    record {
      within : l.done ≤ l.n;
      same : run (slot (bare (g.A.FlatArray.layout l.a))) l.o l.done ≡ run (slot (bare (g.A.FlatArray.layout l.b))) l.p l.done;
      comparisons : l.steps ≡ l.initial.steps + l.done;
    }

abbrev pub decreases-loop-done : goal.decreases-loop-done
decreases-loop-done g l = l.n - l.done
