use mir.Syntax.{w64}
use mir.Val.{SFits}
use Rattle.std.proofs.Common.{rules}
use Rattle.std.proofs.lemmas.Int.{to_z-of_z}
use Rattle.ipc.proofs.Bodies.{slice_is}
use Rattle.ipc.proofs.compressed.body.buffer_bytes.Goals as goal

pub returns : goal.returns
returns c =
    let offset : SFits w64 c.args.buffer.offset = search rules in
    let size : SFits w64 c.args.buffer.length = search rules in
    rw (to_z-of_z w64 c.args.buffer.offset offset, to_z-of_z w64 c.args.buffer.length size) (slice_is c.args.body.now c.args.buffer.offset c.args.buffer.length c.requires)
