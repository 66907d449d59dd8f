use Rattle.std.proofs.Common.{◌≡◌, drop}
use Rattle.std.specs.List.{list_all}
use Rattle.ipc_schema.specs.Footers.{is_block_before}
use Rattle.ipc_schema.proofs.footer.blocks.each_before.Given as goal

abbrev pub invariant-loop-block : goal.invariant-loop-block
invariant-loop-block l = list_all (is_block_before l.end) (drop l.block-index l.blocks) ≡ list_all (is_block_before l.end) l.blocks
