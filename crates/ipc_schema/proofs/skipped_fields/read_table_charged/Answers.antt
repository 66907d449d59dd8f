use Rattle.ipc_schema.proofs.Skipped.{table_pays}
use Rattle.ipc_schema.proofs.skipped_fields.read_table_charged.Goals as goal

pub returns-clause-within_budget : goal.returns-clause-within_budget
returns-clause-within_budget c = rw c.read_table.ensures.value (table_pays c.args.bytes.now c.args.position c.args.left)
