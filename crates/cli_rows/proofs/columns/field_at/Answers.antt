use Rattle.cli_rows.proofs.ByName.{at-index, past-end}
use Rattle.cli_rows.proofs.columns.field_at.Goals as goal

pub returns-then-index-fields : goal.returns-then-index-fields
returns-then-index-fields c = past-end c.args.fields.now c.args.index c.if-index-fields.true

pub returns : goal.returns
returns c = at-index c.args.fields.now c.args.index c.index-fields-index.result c.if-index-fields.false c.index-fields-index.is
