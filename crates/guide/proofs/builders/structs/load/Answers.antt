use Rattle.std.proofs.Common.{◌≡◌, ◌∙◌, ap, sym, subst, take, arith}
use Rattle.nest_model.specs.BuilderTree.{builder_len}
use Rattle.nest_model.specs.BuilderComplete.{truncate_builder}
use Rattle.guide.specs.People.{ArePeople, with_people}
use Rattle.guide.proofs.People.{cut_none, cut_people, longer_all, one_more, whole_all}
use Rattle.guide.proofs.builders.structs.load.Goals as goal

pub push_or_skip-requires : goal.push_or_skip-requires
push_or_skip-requires c =
    subst ArePeople (sym c.loop-cells.invariant) (whole_all (take c.loop-cells.cells-index c.args.rows.now) c.args.people.now c.requires)

pub truncate-requires-clause-complete : goal.truncate-requires-clause-complete
truncate-requires-clause-complete c =
    rw (c.in-Err.ensures.refused, c.loop-cells.invariant) ((whole_all (take c.loop-cells.cells-index c.args.rows.now) c.args.people.now c.requires).0)

pub truncate-requires-clause-within : goal.truncate-requires-clause-within
truncate-requires-clause-within c =
    rw (c.len-count.ensures, c.in-Err.ensures.refused, c.loop-cells.invariant)
    (longer_all (take c.loop-cells.cells-index c.args.rows.now) c.args.people.now (builder_len c.args.people.now) c.requires (omega arith))

pub returns-in-Err-clause-refused : goal.returns-in-Err-clause-refused
returns-in-Err-clause-refused c =
    let old = c.args.people.now in
    let done = take c.loop-cells.cells-index c.args.rows.now in
    c.truncate.ensures
    ∙ ap (λ b. truncate_builder b c.len-count.result) (c.in-Err.ensures.refused ∙ c.loop-cells.invariant)
    ∙ ap (truncate_builder (with_people done old)) c.len-count.ensures
    ∙ cut_people done old (builder_len old) c.requires (omega arith)
    ∙ cut_none old c.requires

pub loop-cells-preserved : goal.loop-cells-preserved
loop-cells-preserved c =
    one_more c.args.rows.now c.loop-cells.cells-index _ c.args.people.now c.loop-cells.people c.push_or_skip.new.people c.loop-cells-test.true c.loop-cells.invariant c.in_default.ensures.pushed
