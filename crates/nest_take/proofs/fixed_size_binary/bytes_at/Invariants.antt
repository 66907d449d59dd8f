use Rattle.std.proofs.Common.{◌≡◌, take}
use Rattle.nest_take.specs.Indices.{blocks_at}
use Rattle.nest_take.proofs.fixed_size_binary.bytes_at.Given as goal

abbrev pub invariant-loop-place : goal.invariant-loop-place
invariant-loop-place l = l.taken.items ≡ blocks_at l.bytes l.size (take l.place-index l.indices)
