use Rattle.std.proofs.Common.{◌≡◌}
use Rattle.std.specs.Int.{w64}
use Rattle.ipc_flatbuf.specs.Flatbuffers.{signed_at, structs_at}
use Rattle.ipc_flatbuf.specs.VectorLoops.{with_structs, structs_from}
use Rattle.ipc_flatbuf.proofs.batch.variadic.counts_of.Given as goal

abbrev pub invariant-loop-i : goal.invariant-loop-i
invariant-loop-i l = with_structs l.counts.items (structs_from (signed_at w64 l.bytes) 8 l.items.count l.items.first l.i) ≡ structs_at (signed_at w64 l.bytes) 8 l.items.count l.items.first
