use Rattle.nest_memory.specs.TypeOf.{type_of}
use Rattle.nest_flat.proofs.TextParts.{text-same}
use Rattle.nest_flat.proofs.utf8.Utf8Array.clone.Goals as goal

pub invariant_of-result : goal.invariant_of-result
invariant_of-result g c =
    text-same g.O.Offset.IS_LARGE (type_of c.self.inside.data_type) (type_of c.in_ok-clone.field-0) c.self.inside.offsets c.in_ok-clone-2.field-0 c.self.inside.values c.in_ok-clone-3.field-0
    c.self.inside.validity c.in_ok-clone-4.field-0 c.in_ok-clone.ensures.ok c.in_ok-clone-2.ensures.ok c.in_ok-clone-3.ensures.ok c.in_ok-clone-4.ensures.ok c.self.invariant
