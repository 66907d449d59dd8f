use Rattle.std.proofs.Common.{◌++◌, length}
use Rattle.std.specs.Int.{w128}
use Rattle.ipc_arrays.specs.FixedWidth.{signed_format, decoded_natives, values_bytes}
use Rattle.ipc_arrays.proofs.Copies.{room_left}
use Rattle.ipc_arrays.proofs.Converting.{widened_more, widened_done}
use Rattle.ipc_arrays.proofs.stored.decimals.widen_each.Goals as goal

pub loop-i-preserved : goal.loop-i-preserved
loop-i-preserved g c =
    let format = g.T.FixedWidth.format in
    let from = c.loop-i.from.now in
    let next = c.split_at.result.1.now in
    let total = c.args.out.now.items ++ values_bytes (signed_format w128) (decoded_natives format c.args.slots c.args.bytes.now) in
    record {
      enough = room_left c.args.slots c.loop-i._i format.size (length from) (length next) c.loop-i-test.true c.loop-i.invariant.enough (rw c.size.ensures at c.split_at.ensures.back_len);
      done = widened_more format c.loop-i.out.items c.put_wide.new.out.items c.args.bytes.now from next total c.args.slots c.loop-i._i (g.T.NativeType.numbers c.from_bytes.result) c.loop-i-test.true c.from_bytes.ensures (rw c.size.ensures at c.split_at.ensures.back) c.in_ok-put_wide.ensures c.loop-i.invariant.done;
    }

pub returns : goal.returns
returns g c =
    let format = g.T.FixedWidth.format in
    let total = c.args.out.now.items ++ values_bytes (signed_format w128) (decoded_natives format c.args.slots c.args.bytes.now) in
    widened_done format c.loop-i.out.items c.loop-i.from.now total c.args.slots c.loop-i._i c.loop-i-test.false c.loop-i.invariant.done
