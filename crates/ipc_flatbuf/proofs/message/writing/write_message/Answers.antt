use Rattle.std.proofs.Common.{◌≡◌, length, ap, refl, inr, arith}
use Rattle.ipc_flatbuf.specs.MessageBytes.{root_bytes, message_bytes}
use Rattle.ipc_flatbuf.specs.MessageLaws.{framed_long}
use Rattle.ipc_flatbuf.proofs.message.writing.write_message.Goals as goal

pub returns-then-len-clause-size : goal.returns-then-len-clause-size
unfolding message_bytes
returns-then-len-clause-size c =
    let metadata = root_bytes c.args.kind c.args.body_length c.args.head c.args.part.now in
    let e : c.write_root.new.out.items ≡ metadata = rw (c.in_ok-write_root.ensures, c.new-metadata.ensures.items) refl in
    inr (refl, omega (arith, framed_long metadata, ap length e, c.len.ensures, c.len-2.ensures, c.write_root.new.out.ok))

pub returns-clause-small : goal.returns-clause-small
unfolding message_bytes
returns-clause-small c =
    let metadata = root_bytes c.args.kind c.args.body_length c.args.head c.args.part.now in
    let e : c.write_root.new.out.items ≡ metadata = rw (c.in_ok-write_root.ensures, c.new-metadata.ensures.items) refl in
    omega (arith, framed_long metadata, ap length e, c.len-2.ensures, c.if-len.false)
