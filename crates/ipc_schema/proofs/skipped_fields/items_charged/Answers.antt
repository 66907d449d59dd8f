use Rattle.ipc_schema.proofs.Skipped.{items_pay}
use Rattle.ipc_schema.proofs.skipped_fields.items_charged.Goals as goal

pub returns-clause-within_budget : goal.returns-clause-within_budget
returns-clause-within_budget c = rw c.items_at.ensures.value (items_pay c.args.bytes.now c.args.position c.args.left)
