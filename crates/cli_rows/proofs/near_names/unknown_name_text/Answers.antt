use Rattle.std.proofs.Common.{rules}
use Rattle.cli_rows.proofs.near_names.unknown_name_text.Goals as goal

pub returns : goal.returns
returns c = rw (← c.in_ok-names.ensures, ← c.deref.ensures.value) (search rules)
