use Rattle.std.proofs.Common.{sym, ◌∙◌}
use Rattle.ipc_schema.proofs.Maps.{key_found}
use Rattle.ipc_schema.proofs.metadata.has_key.Goals as goal

pub returns : goal.returns
returns c = c.contains_key.ensures ∙ sym (key_found c.args.key.now c.args.metadata.now.entries)
