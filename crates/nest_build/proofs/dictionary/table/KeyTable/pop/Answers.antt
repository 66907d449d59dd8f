use Rattle.std.proofs.Common.{rules}
use Rattle.nest_build.proofs.Seats.{popped}
use Rattle.nest_build.proofs.dictionary.table.KeyTable.pop.Goals as goal

pub invariant_of-self : goal.invariant_of-self
invariant_of-self c =
    let place = rw c.as_slice.ensures.value at c.place_of-place.ensures in
    popped c.self.inside.hashes.items c.pop.new.self.items c.self.inside.places.items c.in-Some.hash c.place_of-place.result c.len.result c.self.invariant c.in-Some.ensures.items (search rules) place.within place.there
