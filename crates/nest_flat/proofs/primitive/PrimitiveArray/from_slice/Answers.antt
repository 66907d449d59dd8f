use Rattle.std.proofs.Common.{◌∙◌}
use Rattle.nest_memory.specs.Physical.{primitive_tree}
use Rattle.nest_flat.proofs.Slices.{if_ok-slots, natives-slots}
use Rattle.nest_flat.proofs.primitive.PrimitiveArray.from_slice.Goals as goal

pub returns-clause-slots : goal.returns-clause-slots
returns-clause-slots g c =
    if_ok-slots _ _ c.try_new.result _ _ c.try_new.ensures (natives-slots g.T.NativeType.PRIMITIVE (primitive_tree g.T.NativeType.PRIMITIVE) g.T.NativeType.numbers c.in_ok-buffer.buffer c.args.values.now (c.in_ok-buffer.ensures.ok ∙ c.in_ok-copies.ensures.items))
