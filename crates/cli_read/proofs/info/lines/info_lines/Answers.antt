use Rattle.std.proofs.Common.{rules}
use Rattle.cli_read.proofs.info.lines.info_lines.Goals as goal

pub returns : goal.returns
returns c = rw (← c.deref.ensures.value) (search rules)
