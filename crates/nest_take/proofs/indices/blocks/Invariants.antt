use Rattle.std.proofs.Common.{◌≡◌, take}
use Rattle.nest_take.specs.Indices.{block_indices}
use Rattle.nest_take.proofs.indices.blocks.Given as goal

abbrev pub invariant-loop-place : goal.invariant-loop-place
invariant-loop-place l = l.items.items ≡ block_indices l.n (take l.place-index l.indices)
