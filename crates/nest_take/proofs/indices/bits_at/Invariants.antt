use Rattle.std.proofs.Common.{◌≡◌, length, take}
use Rattle.nest_take.specs.Indices.{AreAt}
use Rattle.nest_take.proofs.indices.bits_at.Given as goal

abbrev pub invariant-loop-place : goal.invariant-loop-place
invariant-loop-place l =
    record {
      same_length : length l.taken ≡ l.place-index;
      done : AreAt l.bits (take l.place-index l.indices) l.taken;
    }
