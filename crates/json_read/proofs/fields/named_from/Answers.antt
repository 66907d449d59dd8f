use Rattle.std.proofs.Common.{rules, ◌<◌, length, sym, ◌∙◌}
use Rattle.json_read.proofs.Named.{named-here, named-next}
use Rattle.json_read.proofs.fields.named_from.Goals as goal

pub returns-then-is_named : goal.returns-then-is_named
returns-then-is_named c =
    let bound : c.loop-i.i < length c.args.fields.now = search rules in
    (bound, named-here c.args.name.now c.args.fields.now c.loop-i.i c.index-fields-i.result bound c.index-fields-i.is (sym c.is_named.ensures ∙ c.if-is_named.true))

pub loop-i-preserved : goal.loop-i-preserved
loop-i-preserved c =
    let bound : c.loop-i.i < length c.args.fields.now = search rules in
    named-next c.args.name.now c.args.fields.now c.args.start c.loop-i.i c.index-fields-i.result bound c.index-fields-i.is (sym c.is_named.ensures ∙ c.if-is_named.false) c.loop-i.invariant
