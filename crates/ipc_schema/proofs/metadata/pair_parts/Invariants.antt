use Rattle.std.proofs.Common.{◌≡◌, ◌++◌, map}
use Rattle.nest_memory.specs.TypeOf.{entries_of}
use Rattle.ipc_flatbuf.specs.PartBytes.{bytes_of_each}
use Rattle.ipc_schema.specs.SchemaBytes.{pair_bytes}
use Rattle.ipc_schema.specs.MetadataLaws.{AreUtf8}
use Rattle.ipc_schema.proofs.metadata.pair_parts.Given as goal

abbrev pub invariant-loop-key : goal.invariant-loop-key
invariant-loop-key l = record {
  parts : bytes_of_each l.parts.items ++ map pair_bytes (entries_of l.key-iterator) ≡ map pair_bytes (entries_of l.metadata.entries);
  texts : AreUtf8 (entries_of l.key-iterator) → AreUtf8 (entries_of l.metadata.entries);
}
