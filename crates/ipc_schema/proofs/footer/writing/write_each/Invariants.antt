use Rattle.std.proofs.Common.{◌≡◌, ◌++◌, take, drop}
use Rattle.std.specs.List.{flat_map, AllByRecursion}
use Rattle.ipc_schema.specs.FooterBytes.{block_struct_bytes}
use Rattle.ipc_schema.specs.FooterLaws.{BlockFits}
use Rattle.ipc_schema.proofs.footer.writing.write_each.Given as goal

abbrev pub invariant-loop-block : goal.invariant-loop-block
invariant-loop-block l = record {
  written : l.out.items ≡ l.initial.out.items ++ flat_map block_struct_bytes (take l.block-index l.blocks);
  fits : AllByRecursion BlockFits (drop l.block-index l.blocks) → AllByRecursion BlockFits l.blocks;
}
