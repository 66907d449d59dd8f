use Rattle.std.proofs.Common.{sym, ap, ◌∙◌, ◌-◌}
use Rattle.nest_array.specs.Seen.{layout_of}
use Rattle.cli_read.proofs.Buffers.{left-length}
use Rattle.cli_read.proofs.comparison.buffer.RowBuffer.len.Goals as goal

pub returns : goal.returns
returns g c = ap (λ n. n - c.args.self.now.from) c.len.ensures ∙ sym (left-length (layout_of c.args.self.now.rows) c.args.self.now.from)
