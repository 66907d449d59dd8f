use Rattle.std.proofs.Common.{arith}
use Rattle.nest_array.specs.Seen.{layout_of}
use Rattle.cli_read.proofs.Buffers.{left-length, window-left}
use Rattle.cli_read.proofs.comparison.buffer.RowBuffer.window.Goals as goal

pub new-requires : goal.new-requires
new-requires g c = let l = left-length (layout_of c.args.self.now.rows) c.args.self.now.from in omega (arith, l, c.requires.within, c.requires.room)

pub returns-clause-rows : goal.returns-clause-rows
returns-clause-rows g c = window-left (layout_of c.args.self.now.rows) c.args.self.now.from c.args.n _ c.new.ensures.parts
