use Rattle.std.proofs.Common.{◌∙◌, ap, ◌++◌, List, ℕ}
use Rattle.ipc_flatbuf.proofs.Parts.{bodies_more, bodies_done}
use Rattle.ipc_flatbuf.proofs.writers.write_each.Goals as goal

pub loop-body-preserved : goal.loop-body-preserved
loop-body-preserved c = bodies_more _ _ _ c.loop-body.body-index c.args.bodies.now c.body-item.result c.loop-body-test.true c.body-item.is (c.in_ok-extend_from_slice.ensures.items ∙ ap (λ (r : List ℕ). c.loop-body.out.items ++ r) c.deref.ensures.value) c.loop-body.invariant

pub returns : goal.returns
returns c = bodies_done _ _ c.loop-body.body-index c.args.bodies.now c.loop-body-test.false c.loop-body.invariant
