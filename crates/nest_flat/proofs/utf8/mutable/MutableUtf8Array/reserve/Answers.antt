use Rattle.nest_flat.proofs.BytesGrown.{each-at}
use Rattle.nest_flat.proofs.utf8.mutable.MutableUtf8Array.reserve.Goals as goal

pub invariant_of-self : goal.invariant_of-self
invariant_of-self g c = (c.self.invariant.0, each-at c.reserve.new.self c.self.inside.spans c.reserve.ensures.same c.self.invariant.1)
