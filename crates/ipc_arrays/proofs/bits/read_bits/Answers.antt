use Rattle.std.proofs.Common.{subst, arith}
use Rattle.ipc_flatbuf.specs.ReadResults.{ReturnsOrRunsOut}
use Rattle.ipc_arrays.specs.BitmapLaws.{bits_copied}
use Rattle.ipc_arrays.proofs.bits.read_bits.Goals as goal

pub returns-clause-read : goal.returns-clause-read
returns-clause-read c =
    subst (λ z. ReturnsOrRunsOut (λ b. b) c.bitmap_of.result z)
    (bits_copied c.args.bytes.now c.in_ok-copy.copy.items c.div_ceil-needed.result c.args.slots c.div_ceil-needed.ensures (omega (arith, c.if-needed-bytes.false)) c.in_ok-copy.ensures)
    c.bitmap_of.ensures.read
