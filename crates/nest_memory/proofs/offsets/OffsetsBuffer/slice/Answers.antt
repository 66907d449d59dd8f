use Rattle.std.proofs.Common.{◌+◌, ◌≤◌, length, arith, ap, ◌∙◌, map}
use Rattle.nest_memory.specs.Rising.{are_offsets}
use Rattle.nest_memory.proofs.Rises.{offsets_cut, numbers_len}
use Rattle.nest_memory.proofs.offsets.OffsetsBuffer.slice.Goals as goal

pub invariant_of-self : goal.invariant_of-self
invariant_of-self g c =
    let v = g.O.Offset.value in
    let same = ap length c.self.view_is in
    let within : c.args.offset + c.args.len ≤ length c.self.inside.buffer = omega (arith, numbers_len v c.self.inside.buffer) in
    ap (λ ys. are_offsets (map v ys)) c.slice.ensures ∙ offsets_cut v _ _ _ c.self.invariant within c.requires.some
