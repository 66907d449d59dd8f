use Rattle.std.proofs.Common.{◌≡◌}
use Rattle.std.specs.Int.{w32}
use Rattle.ipc_flatbuf.specs.Flatbuffers.{signed_at, structs_at}
use Rattle.ipc_flatbuf.specs.VectorLoops.{with_structs, structs_from}
use Rattle.ipc_schema.proofs.nested.ids_of.Given as goal

abbrev pub invariant-loop-i : goal.invariant-loop-i
invariant-loop-i l = with_structs l.ids.items (structs_from (signed_at w32 l.bytes) 4 l.items.count l.items.first l.i) ≡ structs_at (signed_at w32 l.bytes) 4 l.items.count l.items.first
