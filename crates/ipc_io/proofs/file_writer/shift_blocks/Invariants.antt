use Rattle.std.proofs.Common.{◌≡◌, map, take}
use Rattle.ipc_io.specs.FileWriters.{shifted_block}
use Rattle.ipc_io.proofs.file_writer.shift_blocks.Given as goal

abbrev pub invariant-loop-block : goal.invariant-loop-block
invariant-loop-block l = l.all.items ≡ map (shifted_block l.position) (take l.block-index l.blocks)
