use Rattle.std.proofs.Common.{◌≡◌, ◌+◌, drop, map, sum, leb}
use Rattle.ipc_schema.specs.Footers.{spec_block_length}
use Rattle.ipc_schema.proofs.footer.blocks.left_by.Given as goal

abbrev pub invariant-loop-block : goal.invariant-loop-block
invariant-loop-block l = record {
  within : leb (sum (map spec_block_length (drop l.block-index l.blocks))) l.left ≡ leb (sum (map spec_block_length l.blocks)) l.bytes;
  left : l.left + sum (map spec_block_length l.blocks) ≡ l.bytes + sum (map spec_block_length (drop l.block-index l.blocks));
}
