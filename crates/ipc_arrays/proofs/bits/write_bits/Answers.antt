use Rattle.std.proofs.Common.{arith}
use Rattle.ipc_arrays.proofs.Packing.{packed_more, packed_done}
use Rattle.ipc_arrays.proofs.bits.write_bits.Goals as goal

pub loop-j-preserved : goal.loop-j-preserved
loop-j-preserved c = packed_more c.args.out.now.items c.loop-j.out.items c.push.new.self.items c.args.bits.now c.loop-j.j c.byte_of.result c.loop-j.invariant c.byte_of.ensures c.in_ok-push.ensures.items

pub returns : goal.returns
returns c = packed_done c.args.out.now.items c.loop-j.out.items c.args.bits.now c.loop-j.j (omega arith) c.loop-j.invariant
