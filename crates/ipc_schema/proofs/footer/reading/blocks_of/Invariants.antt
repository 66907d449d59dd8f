use Rattle.std.proofs.Common.{◌≡◌}
use Rattle.ipc_flatbuf.specs.Flatbuffers.{structs_at}
use Rattle.ipc_flatbuf.specs.VectorLoops.{with_structs, structs_from}
use Rattle.ipc_schema.specs.Footers.{spec_block_at}
use Rattle.ipc_schema.proofs.footer.reading.blocks_of.Given as goal

abbrev pub invariant-loop-i : goal.invariant-loop-i
invariant-loop-i l = with_structs l.blocks.items (structs_from (spec_block_at l.bytes) 24 l.items.count l.items.first l.i) ≡ structs_at (spec_block_at l.bytes) 24 l.items.count l.items.first
