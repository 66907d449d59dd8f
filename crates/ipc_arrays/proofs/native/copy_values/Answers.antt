use Rattle.std.proofs.lemmas.Grind.{common_steps}
use Rattle.std.proofs.Common.{length, arith}
use Rattle.ipc_arrays.specs.FixedWidth.{decoded_natives}
use Rattle.ipc_arrays.proofs.Copies.{values_more, values_done, room_left}
use Rattle.ipc_arrays.proofs.native.copy_values.Goals as goal

pub loop-i-preserved : goal.loop-i-preserved
loop-i-preserved g c =
    let e = c.push_reserved.ensures.items in
    let h = c.loop-i.invariant in
    let size = g.T.FixedWidth.format.size in
    let from = c.loop-i.from.now in
    let next = c.split_at.result.1.now in
    record {
      room = omega (arith, c.push_reserved.ensures.capacity, h.room);
      so_many = grind (arith, common_steps);
      enough = room_left c.args.slots c.loop-i.i size (length from) (length next) c.loop-i-test.true h.enough (rw c.size.ensures at c.split_at.ensures.back_len);
      done = values_more g.T.NativeType.numbers g.T.FixedWidth.format c.loop-i.values.items c.push_reserved.new.self.items c.from_bytes.result c.args.slots c.loop-i.i from next (decoded_natives g.T.FixedWidth.format c.args.slots c.args.bytes.now) c.loop-i-test.true e c.from_bytes.ensures (rw c.size.ensures at c.split_at.ensures.back) h.done;
    }

pub returns-clause-values : goal.returns-clause-values
returns-clause-values g c =
    values_done g.T.NativeType.numbers g.T.FixedWidth.format c.loop-i.values.items c.args.slots c.loop-i.i c.loop-i.from.now (decoded_natives g.T.FixedWidth.format c.args.slots c.args.bytes.now) c.loop-i-test.false c.loop-i.invariant.done
