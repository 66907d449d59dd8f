use Rattle.std.proofs.Common.{◌≡◌, length, ◌∙◌}
use Rattle.ipc_arrays.proofs.Converting.{ended}
use Rattle.ipc_arrays.proofs.stored.contents.push_content.Goals as goal

pub returns : goal.returns
returns c =
    let start_is : c.len-start.result ≡ length c.args.plain.now.bytes.items = c.len-start.ensures ∙ c.args.plain.now.bytes.ok.0 in
    ended c.args.plain.now.specs.items c.end_buffer.new.plain.specs.items c.args.plain.now.bytes.items c.extend_from_slice.new.self.items c.end_buffer.new.plain.bytes.items c.args.content.now c.len-start.result
    c.in_ok-extend_from_slice.ensures.items start_is c.in_ok-end_buffer.ensures.specs c.in_ok-end_buffer.ensures.bytes
