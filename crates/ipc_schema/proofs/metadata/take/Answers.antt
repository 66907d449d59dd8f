use Rattle.std.proofs.Common.{sym, ap, ◌∙◌}
use Rattle.std.specs.Prelude.{string_bytes}
use Rattle.std.specs.Option.{option_map}
use Rattle.ipc_schema.proofs.Maps.{value_found, taken}
use Rattle.ipc_schema.proofs.metadata.take.Goals as goal

pub returns-clause-value : goal.returns-clause-value
returns-clause-value c = ap (option_map string_bytes) c.remove.ensures.value ∙ sym (value_found c.args.key.now c.args.metadata.now.entries)

pub returns-clause-rest : goal.returns-clause-rest
returns-clause-rest c = rw c.remove.ensures.entries (taken c.args.key.now c.args.metadata.now.entries)
