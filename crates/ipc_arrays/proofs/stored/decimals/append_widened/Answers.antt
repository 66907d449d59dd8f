use Rattle.std.proofs.Common.{◌≡◌, ◌*◌, leb, true, length, sym, ◌∙◌}
use Rattle.ipc_arrays.specs.Stored.{widened}
use Rattle.ipc_arrays.proofs.Converting.{stored_ended, widened_is}
use Rattle.ipc_arrays.proofs.stored.decimals.append_widened.Goals as goal

pub returns : goal.returns
returns g c =
    let format = g.T.FixedWidth.format in
    let enough : leb (c.args.slots * c.size.result) (length c.args.values.now) ≡ true = sym c.if-not-is_enough.ensures in
    let start_is : c.len-start.result ≡ length c.args.plain.now.bytes.items = c.len-start.ensures ∙ c.args.plain.now.bytes.ok.0 in
    stored_ended (widened format c.args.slots c.args.values.now) c.args.plain.now.specs.items c.end_buffer.new.plain.specs.items c.args.plain.now.bytes.items c.widen_each.new.out.items c.end_buffer.new.plain.bytes.items c.len-start.result
    (widened_is format c.args.slots c.args.values.now c.args.plain.now.bytes.items c.widen_each.new.out.items (rw c.size.ensures at enough) c.in_ok-widen_each.ensures) start_is c.in_ok-end_buffer.ensures.specs c.in_ok-end_buffer.ensures.bytes
