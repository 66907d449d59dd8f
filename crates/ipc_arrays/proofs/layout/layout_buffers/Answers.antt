use Rattle.std.proofs.Common.{refl, ◌∙◌}
use Rattle.std.proofs.lemmas.Result.{err_from_is_err_and}
use Rattle.ipc_arrays.proofs.Bodies.{longer_none, longer_step, longer_all, past_step}
use Rattle.ipc_arrays.proofs.layout.layout_buffers.Goals as goal

pub loop-size-init : goal.loop-size-init
loop-size-init c = record { nodes = refl; small = c.requires; longer = λ buffers e. longer_none c.args.layout.now c.requires }

pub layout_buffer-requires : goal.layout_buffer-requires
layout_buffer-requires c = c.loop-size.invariant.small

pub returns-in_err-layout_buffer-clause-err : goal.returns-in_err-layout_buffer-clause-err
returns-in_err-layout_buffer-clause-err c =
    let p = err_from_is_err_and c.from_residual.result c.from_residual.ensures.1 in
    rw (p.1, p.2) (past_step _ c.args.layout.now c.loop-size.layout c.args.sizes.now c.loop-size.size-index _ c.loop-size-test.true refl c.in_err-layout_buffer.ensures.err c.loop-size.invariant.longer)

pub loop-size-preserved : goal.loop-size-preserved
loop-size-preserved c =
    let ok = c.in_ok-layout_buffer.ensures in
    record {
      nodes = ok.nodes ∙ c.loop-size.invariant.nodes;
      small = ok.small;
      longer = longer_step c.args.layout.now c.loop-size.layout c.layout_buffer.new.layout c.args.sizes.now c.loop-size.size-index _ c.loop-size-test.true refl ok.region ok.length ok.small c.loop-size.invariant.longer;
    }

pub returns-clause-ok : goal.returns-clause-ok
returns-clause-ok c = longer_all c.args.layout.now c.loop-size.layout c.args.sizes.now c.loop-size.size-index c.loop-size-test.false c.loop-size.invariant.longer
