use Rattle.std.proofs.lemmas.Result.{err_from_is_err_and}
use Rattle.ipc_arrays.specs.Projection.{skipped_views}
use Rattle.ipc_arrays.proofs.Passing.{views_go_on, views_end, views_are_done, views_start}
use Rattle.ipc_arrays.proofs.projected.skip_views.Goals as goal

pub loop-i-init : goal.loop-i-init
loop-i-init c = views_start c.args.views c.args.more.now c.args.buffers.now

pub returns-in_err-tail : goal.returns-in_err-tail
returns-in_err-tail c =
    let p = err_from_is_err_and c.from_residual.result c.from_residual.ensures.1 in
    rw (p.1, p.2) (views_end c.args.views c.loop-i._i c.loop-i.counts.now c.loop-i.left.now (skipped_views c.args.views c.args.more.now c.args.buffers.now) c.in_err-tail.field-0.0 c.loop-i-test.true c.in_err-tail.ensures c.loop-i.invariant)

pub loop-i-preserved : goal.loop-i-preserved
loop-i-preserved c =
    views_go_on c.args.views c.loop-i._i c.loop-i.counts.now c.loop-i.left.now (skipped_views c.args.views c.args.more.now c.args.buffers.now) c.in_ok-tail.tail.now c.in_ok-tail.others.now c.loop-i-test.true c.in_ok-tail.ensures c.loop-i.invariant

pub returns : goal.returns
returns c = views_are_done c.args.views c.loop-i._i c.loop-i.counts.now c.loop-i.left.now (skipped_views c.args.views c.args.more.now c.args.buffers.now) c.loop-i-test.false c.loop-i.invariant
