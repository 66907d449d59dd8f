use Rattle.std.proofs.Common.{◌≡◌, take}
use Rattle.std.specs.Prelude.{option_map}
use Rattle.nest_take.specs.Indices.{item_indices}
use Rattle.nest_take.proofs.spans.items.Given as goal

abbrev pub invariant-loop-place : goal.invariant-loop-place
invariant-loop-place g l = l.items.items ≡ item_indices l.offsets (option_map (λ b. b.now) l.validity) (take l.place-index l.indices)
