use Rattle.std.proofs.Common.{rules}
use Rattle.cli_rows.proofs.text.support.support_error.Goals as goal

pub returns : goal.returns
returns c = rw (← c.path-path.ensures, ← c.name-name.ensures) (search rules)
