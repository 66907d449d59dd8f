use Rattle.std.specs.Prelude.{pos, map}
use Rattle.std.proofs.Common.{◌≡◌, ◌++◌}
use Rattle.nest_memory.specs.Rising.{ends_from}
use Rattle.nest_concat.specs.Windows.{extents}
use Rattle.nest_concat.proofs.spans.push_rows.Given as goal

abbrev pub invariant-loop-i : goal.invariant-loop-i
invariant-loop-i g l =
    record {
      gathered : map g.O.Offset.value l.ends.items ≡ map g.O.Offset.value l.initial.ends.items ++ map (λ n. pos n) (ends_from l.base (extents l.offsets l.start l.i));
    }
