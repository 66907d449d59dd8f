use Rattle.std.proofs.Common.{◌≡◌, take}
use Rattle.std.specs.Prelude.{option_map}
use Rattle.nest_take.specs.Indices.{count_at}
use Rattle.nest_take.proofs.Pieces.{ends}
use Rattle.nest_take.proofs.spans.offsets_at.Given as goal

abbrev pub invariant-loop-place : goal.invariant-loop-place
invariant-loop-place g l = l.ends ≡ ends (count_at l.offsets (option_map (λ b. b.now) l.validity)) (take l.place-index l.indices)
