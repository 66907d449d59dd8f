use Rattle.std.proofs.Common.{◌≡◌, ◌+◌, ◌-◌, ◌*◌, ◌^◌, ◌<◌, refl, arith}
use Rattle.nest_memory.specs.Sublist.{sublist}
use Rattle.ipc_arrays.specs.Bitmaps.{byte_value}
use Rattle.std.specs.Int.{from_bool}
use Rattle.ipc_arrays.proofs.Packing.{byte_more, byte_small, byte_done}
use Rattle.ipc_arrays.proofs.bits.byte_of.Goals as goal

pub loop-i-init : goal.loop-i-init
loop-i-init c = unfold byte_value in refl

more : (c : goal.After-get_bit) → 2 * c.loop-i.byte + from_bool c.get_bit.result ≡ byte_value (sublist c.args.bits.now (c.args.first + (c.min-count.result - (c.loop-i.i + 1))) (c.loop-i.i + 1))
more c = byte_more c.args.bits.now c.args.first c.min-count.result c.loop-i.i c.loop-i.byte c.get_bit.result c.loop-i-test.true (omega arith) (omega arith) c.loop-i.invariant c.get_bit.ensures

pub overflow_mul-byte : goal.overflow_mul-byte
overflow_mul-byte c = let small : c.loop-i.byte < 2 ^ 7 = byte_small c.args.bits.now (c.args.first + (c.min-count.result - c.loop-i.i)) c.loop-i.i 7 c.loop-i.byte (omega arith) c.loop-i.invariant in omega arith

pub overflow_add-byte : goal.overflow_add-byte
overflow_add-byte c = let small : 2 * c.loop-i.byte + from_bool c.get_bit.result < 2 ^ 8 = byte_small c.args.bits.now (c.args.first + (c.min-count.result - (c.loop-i.i + 1))) (c.loop-i.i + 1) 8 (2 * c.loop-i.byte + from_bool c.get_bit.result) (omega arith) (more c) in omega arith

pub loop-i-preserved : goal.loop-i-preserved
loop-i-preserved c = more c

pub returns : goal.returns
returns c = byte_done c.args.bits.now c.args.first c.min-count.result c.loop-i.i c.loop-i.byte c.loop-i-test.false (omega arith) (omega arith) c.loop-i.invariant
