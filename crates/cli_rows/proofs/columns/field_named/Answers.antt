use Rattle.std.proofs.Common.{sym, ◌∙◌}
use Rattle.std.specs.Prelude.{string_bytes}
use Rattle.cli_rows.proofs.ByName.{named-end, named-found, named-next}
use Rattle.cli_rows.proofs.columns.field_named.Goals as goal

pub returns-then-is_named : goal.returns-then-is_named
returns-then-is_named c =
    sym (c.loop-field.invariant ∙ named-found (string_bytes c.args.name.now) c.args.fields.now c.loop-field.field-index c.field-item.result c.loop-field-test.true c.field-item.is (sym c.is_named.ensures ∙ c.if-is_named.true))

pub loop-field-preserved : goal.loop-field-preserved
loop-field-preserved c = c.loop-field.invariant ∙ named-next (string_bytes c.args.name.now) c.args.fields.now c.loop-field.field-index c.field-item.result c.loop-field-test.true c.field-item.is (sym c.is_named.ensures ∙ c.if-is_named.false)

pub returns : goal.returns
returns c = sym (c.loop-field.invariant ∙ named-end (string_bytes c.args.name.now) c.args.fields.now c.loop-field.field-index c.loop-field-test.false)
