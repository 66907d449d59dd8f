use Rattle.nest_concat.proofs.LaidParts.{length-room, text-room}
use Rattle.nest_concat.proofs.utf8.join.Goals as goal

pub returns-in-Ok-clause-room : goal.returns-in-Ok-clause-room
returns-in-Ok-clause-room c =
    let a = c.args.array.now in
    let ws = c.args.windows.now in
    text-room _ a _ _ _ _ ws c.known.ensures.kind (length-room ws _ c.requires.total c.ranges.total.fits) c.in-Ok.ensures.room
