use Rattle.std.proofs.Common.{refl}
use Rattle.ipc_schema.proofs.Maps.{inserted}
use Rattle.ipc_schema.proofs.metadata.insert.Goals as goal

pub returns : goal.returns
returns c = rw (c.in_ok-insert.ensures.entries, inserted c.args.metadata.now.entries c.in_ok-key.key c.in_ok-value.value, c.in_ok-key.ensures.ok, c.in_ok-value.ensures.ok) refl
