use Rattle.std.proofs.Common.{◌∙◌, arith, map, sym}
use Rattle.nest_memory.specs.TypeOf.{field_of}
use Rattle.cli_rows.proofs.UnknownNames.{unknown-end, unknown-found, unknown-next, unknown-start}
use Rattle.cli_rows.proofs.columns.unknown_in.Goals as goal

pub loop-i-init : goal.loop-i-init
loop-i-init c = unknown-start c.args.names.now (map field_of c.args.fields.now)

pub returns-then-is_lacking : goal.returns-then-is_lacking
returns-then-is_lacking c = sym (c.loop-i.invariant ∙ unknown-found c.args.names.now (map field_of c.args.fields.now) c.loop-i.i _ c.loop-i-test.true (sym c.is_lacking.ensures ∙ c.if-is_lacking.true))

pub loop-i-preserved : goal.loop-i-preserved
loop-i-preserved c = c.loop-i.invariant ∙ unknown-next c.args.names.now (map field_of c.args.fields.now) c.loop-i.i _ c.loop-i-test.true (sym c.is_lacking.ensures ∙ c.if-is_lacking.false)

pub returns : goal.returns
returns c = sym (c.loop-i.invariant ∙ unknown-end c.args.names.now (map field_of c.args.fields.now) c.loop-i.i (omega (arith, c.loop-i-test.false)))
