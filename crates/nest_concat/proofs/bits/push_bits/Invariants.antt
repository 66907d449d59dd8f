use Rattle.std.proofs.Common.{◌≡◌, ◌+◌, ◌++◌, length}
use Rattle.nest_memory.specs.Sublist.{sublist}
use Rattle.nest_concat.proofs.bits.push_bits.Given as goal

abbrev pub invariant-loop-i : goal.invariant-loop-i
invariant-loop-i l =
    record {
      gathered : l.taken ≡ l.initial.taken ++ sublist l.bits l.start l.i;
      long : length l.taken ≡ length l.initial.taken + l.i;
    }
