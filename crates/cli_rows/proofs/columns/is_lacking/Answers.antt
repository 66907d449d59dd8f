use Rattle.std.proofs.Common.{sym, ◌∙◌}
use Rattle.cli_rows.proofs.UnknownNames.{lacks-end, lacks-found, lacks-next}
use Rattle.cli_rows.proofs.columns.is_lacking.Goals as goal

pub returns-then-is_called : goal.returns-then-is_called
returns-then-is_called c =
    sym (c.loop-field.invariant ∙ lacks-found c.args.name.now c.args.fields.now c.loop-field.field-index c.field-item.result c.loop-field-test.true c.field-item.is (sym c.is_called.ensures ∙ c.if-is_called.true))

pub loop-field-preserved : goal.loop-field-preserved
loop-field-preserved c = c.loop-field.invariant ∙ lacks-next c.args.name.now c.args.fields.now c.loop-field.field-index c.field-item.result c.loop-field-test.true c.field-item.is (sym c.is_called.ensures ∙ c.if-is_called.false)

pub returns : goal.returns
returns c = sym (c.loop-field.invariant ∙ lacks-end c.args.name.now c.args.fields.now c.loop-field.field-index c.loop-field-test.false)
