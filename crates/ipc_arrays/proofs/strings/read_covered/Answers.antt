use Rattle.std.proofs.Common.{subst, arith}
use Rattle.ipc_flatbuf.specs.ReadResults.{ReturnsOrRunsOut}
use Rattle.ipc_arrays.proofs.Offsets.{covered_past, covered_is}
use Rattle.ipc_arrays.proofs.strings.read_covered.Goals as goal

pub returns-then-last-bytes-clause-read : goal.returns-then-last-bytes-clause-read
returns-then-last-bytes-clause-read c = λ known. covered_past c.args.last c.args.bytes.now (omega (arith, c.if-last-bytes.true))

pub returns-clause-read : goal.returns-clause-read
returns-clause-read c = subst (λ z. ReturnsOrRunsOut (λ b. b) c.read_bytes.result z) (covered_is c.args.last c.args.bytes.now (omega (arith, c.if-last-bytes.false))) c.read_bytes.ensures.read
