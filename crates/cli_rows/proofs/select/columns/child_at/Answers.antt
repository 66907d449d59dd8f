use Rattle.cli_rows.proofs.RecordColumns.{child-at, no-child-at, no-field-at}
use Rattle.cli_rows.proofs.select.columns.child_at.Goals as goal

pub returns-then-index-fields : goal.returns-then-index-fields
returns-then-index-fields c = no-field-at c.args.index c.args.fields.now c.args.children.now c.if-index-fields.true

pub returns-then-index-children : goal.returns-then-index-children
returns-then-index-children c = no-child-at c.args.index c.args.fields.now c.args.children.now c.if-index-children.true

pub returns : goal.returns
returns c = child-at c.args.index c.args.fields.now c.args.children.now c.index-children-index.result c.if-index-fields.false c.if-index-children.false c.index-children-index.is
