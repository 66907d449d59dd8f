use Rattle.std.proofs.Common.{◌≡◌, ℕ, ◌≤◌, get_or, length}
use Rattle.nest_concat.specs.Moved.{AreAdvanced, AreFew}
use Rattle.nest_concat.proofs.union.advance.Given as goal

abbrev pub invariant-loop-f : goal.invariant-loop-f
invariant-loop-f l =
    record {
      wide : length l.counts ≡ 128;
      deep : length l.ends ≡ 128;
      done : AreAdvanced l.f l.window l.initial.counts l.ends l.counts;
      rest : (g : ℕ) → l.f ≤ g → get_or l.counts g 0 ≡ get_or l.initial.counts g 0;
      few : AreFew l.counts;
    }
