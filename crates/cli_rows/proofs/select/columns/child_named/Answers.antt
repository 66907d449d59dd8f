use Rattle.std.proofs.Common.{◌<◌, length, sym, ◌∙◌, arith}
use Rattle.std.specs.Prelude.{string_bytes}
use Rattle.cli_rows.proofs.RecordColumns.{named-end, named-found, named-next, next-child}
use Rattle.cli_rows.proofs.select.columns.child_named.Goals as goal

pub returns-then-i-children : goal.returns-then-i-children
returns-then-i-children c = sym (c.loop-i.invariant.1 ∙ named-end (string_bytes c.args.name.now) c.args.fields.now c.args.children.now c.loop-i.i (omega (arith, c.if-i-children.true)))

pub returns-then-is_named : goal.returns-then-is_named
returns-then-is_named c =
    let within : c.loop-i.i < length c.args.children.now = omega (arith, c.if-i-children.false) in
    sym (c.loop-i.invariant.1 ∙ named-found (string_bytes c.args.name.now) c.args.fields.now c.args.children.now c.loop-i.i c.index-fields-i.result c.index-children-i.result c.loop-i-test.true within c.index-fields-i.is c.index-children-i.is (sym c.is_named.ensures ∙ c.if-is_named.true))

pub loop-i-preserved : goal.loop-i-preserved
loop-i-preserved c =
    let within : c.loop-i.i < length c.args.children.now = omega (arith, c.if-i-children.false) in
    let x = next-child c.args.children.now c.loop-i.i within in (
      omega (arith, within),
      c.loop-i.invariant.1 ∙ named-next (string_bytes c.args.name.now) c.args.fields.now c.args.children.now c.loop-i.i c.index-fields-i.result x.0 c.loop-i-test.true within c.index-fields-i.is x.1 (sym c.is_named.ensures ∙ c.if-is_named.false),
    )
