use Rattle.std.proofs.Common.{rules}
use Rattle.nest_build.specs.Seats.{IsFree}
use Rattle.nest_build.proofs.Seats.{pushed}
use Rattle.nest_build.proofs.dictionary.table.KeyTable.push.Goals as goal

pub invariant_of-self-in-Ok : goal.invariant_of-self-in-Ok
invariant_of-self-in-Ok c =
    let places = c.make_room.new.places.items in
    let seats = rw c.as_slice.ensures.value at c.make_room.ensures.seats in
    let room = rw c.as_slice.ensures.value at c.in_ok-make_room.ensures.room in
    let free : IsFree places c.args.hash c.free_place-place.result = rw c.as_slice-2.ensures.value at c.free_place-place.ensures in
    pushed c.self.inside.hashes.items c.push.new.self.items places c.args.hash c.free_place-place.result c.len.result seats free c.in-Ok.ensures.items (search rules) room
