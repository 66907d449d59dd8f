use Rattle.std.proofs.Common.{arith}
use Rattle.nest_array.specs.Seen.{layout_of}
use Rattle.cli_read.proofs.Buffers.{left-length}
use Rattle.cli_read.proofs.comparison.buffer.RowBuffer.advance.Goals as goal

pub overflow_add-self : goal.overflow_add-self
overflow_add-self g c = let l = left-length (layout_of c.args.self.now.rows) c.args.self.now.from in omega (arith, l, c.requires.within, c.requires.room, c.len-len.ensures)
