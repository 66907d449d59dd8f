use Rattle.std.proofs.Common.{◌≡◌, ◌+◌, ◌++◌, take, drop, map}
use Rattle.std.specs.Prelude.{slice_index}
use Rattle.nest_memory.specs.Rising.{last_of}
use Rattle.nest_memory.proofs.offsets.Offsets.try_extend_from_self.Given as goal

abbrev pub invariant-loop-i : goal.invariant-loop-i
invariant-loop-i g l = record {
  joined_so_far : l.self ≡ l.fn.self ++ map (λ n. last_of l.fn.self + n) (take l.i (drop 1 l.other));
  last : last_of l.self ≡ last_of l.fn.self + slice_index l.other l.i;
}
