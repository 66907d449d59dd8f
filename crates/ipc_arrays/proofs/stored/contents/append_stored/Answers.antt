use Rattle.std.proofs.Common.{◌≡◌, length, ◌∙◌}
use Rattle.ipc_arrays.specs.Stored.{stored_content, plain_content}
use Rattle.ipc_arrays.proofs.Converting.{stored_ended}
use Rattle.ipc_arrays.proofs.stored.contents.append_stored.Goals as goal

pub returns : goal.returns
unfolding stored_content
returns c =
    let start_is : c.len-start.result ≡ length c.args.plain.now.bytes.items = c.len-start.ensures ∙ c.args.plain.now.bytes.ok.0 in
    rw c.in_ok-bytes.ensures
    (stored_ended (plain_content c.args.codec c.in_ok-bytes.bytes.now) c.args.plain.now.specs.items c.end_buffer.new.plain.specs.items c.args.plain.now.bytes.items c.append_bytes.new.out.items c.end_buffer.new.plain.bytes.items c.len-start.result
    c.in_ok-append_bytes.ensures start_is c.in_ok-end_buffer.ensures.specs c.in_ok-end_buffer.ensures.bytes)
