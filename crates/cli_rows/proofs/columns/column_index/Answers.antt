use Rattle.std.proofs.Common.{◌∙◌, arith, sym}
use Rattle.std.specs.Prelude.{string_bytes}
use Rattle.cli_rows.proofs.ByName.{index-end, index-found, index-next, index-start}
use Rattle.cli_rows.proofs.columns.column_index.Goals as goal

pub loop-i-init : goal.loop-i-init
loop-i-init c = index-start (string_bytes c.args.name.now) c.args.fields.now

pub returns-then-is_named : goal.returns-then-is_named
returns-then-is_named c =
    sym (c.loop-i.invariant ∙ index-found (string_bytes c.args.name.now) c.args.fields.now c.loop-i.i c.index-fields-i.result c.loop-i-test.true c.index-fields-i.is (sym c.is_named.ensures ∙ c.if-is_named.true))

pub loop-i-preserved : goal.loop-i-preserved
loop-i-preserved c = c.loop-i.invariant ∙ index-next (string_bytes c.args.name.now) c.args.fields.now c.loop-i.i c.index-fields-i.result c.loop-i-test.true c.index-fields-i.is (sym c.is_named.ensures ∙ c.if-is_named.false)

pub returns : goal.returns
returns c = sym (c.loop-i.invariant ∙ index-end (string_bytes c.args.name.now) c.args.fields.now c.loop-i.i (omega (arith, c.loop-i-test.false)))
