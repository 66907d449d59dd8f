use Rattle.std.proofs.Common.{◌≡◌, [], List}
use Rattle.nest_memory.specs.TypeOf.{entries_of}
use Rattle.nest_memory.specs.TypeTree.{Letters}
use Rattle.ipc_flatbuf.specs.Flatbuffers.{tables_at}
use Rattle.ipc_flatbuf.specs.VectorLoops.{with_done, rest_at}
use Rattle.ipc_schema.specs.Schemas.{spec_pair_at, with_pairs}
use Rattle.ipc_schema.proofs.metadata.pairs_of.Given as goal

-- the pairs so far make the map
abbrev pub invariant-loop-i : goal.invariant-loop-i
invariant-loop-i l =
    (front : List (Letters × Letters)) × (with_pairs [] front ≡ entries_of l.metadata.entries) × (with_done front (rest_at (spec_pair_at l.bytes) l.bytes l.items.count l.items.first l.i l.rest) ≡ tables_at (spec_pair_at l.bytes) l.bytes l.items.count l.items.first l.left)
