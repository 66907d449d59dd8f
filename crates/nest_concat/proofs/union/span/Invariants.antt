use Rattle.std.proofs.Common.{◌≡◌}
use Rattle.nest_concat.specs.Parts.{behind, lowest, picks_in}
use Rattle.nest_concat.proofs.union.span.Given as goal

abbrev pub invariant-loop-i : goal.invariant-loop-i
invariant-loop-i l =
    record {
      first : l.span.0 ≡ lowest (picks_in l.f l.array l.o l.i);
      end : l.span.1 ≡ behind (picks_in l.f l.array l.o l.i);
    }
