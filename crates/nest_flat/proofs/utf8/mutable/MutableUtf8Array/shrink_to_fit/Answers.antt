use Rattle.nest_flat.proofs.BytesGrown.{each-at}
use Rattle.nest_flat.proofs.utf8.mutable.MutableUtf8Array.shrink_to_fit.Goals as goal

pub invariant_of-self : goal.invariant_of-self
invariant_of-self g c = (c.self.invariant.0, each-at c.shrink_to_fit.new.self c.self.inside.spans c.shrink_to_fit.ensures c.self.invariant.1)
