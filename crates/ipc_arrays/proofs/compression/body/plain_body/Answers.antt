use Rattle.std.specs.Prelude.{pos}
use Rattle.std.proofs.lemmas.Result.{err_from_is_err_and}
use Rattle.ipc_flatbuf.specs.declared.batch.parts.BufferSpec.{BufferSpec}
use Rattle.ipc_arrays.proofs.PlainBodies.{laid_out_start, laid_out_more, laid_out_fails, laid_out_all, laid_out_count, laid_out_decodes}
use Rattle.ipc_arrays.proofs.compression.body.plain_body.Goals as goal

abbrev default : BufferSpec
default = record { offset = pos 0; length = pos 0 }

pub loop-index-init : goal.loop-index-init
loop-index-init c = laid_out_start c.args.codec c.args.body.now c.args.buffers.now c.args.needed.now _ _ c.new-plain_buffers.ensures.items c.new-plain.ensures.items

pub returns-in_err-plain_buffer-clause-value : goal.returns-in_err-plain_buffer-clause-value
returns-in_err-plain_buffer-clause-value c =
    let p = err_from_is_err_and c.from_residual.result c.from_residual.ensures.1 in
    rw (p.1, p.2) (laid_out_fails c.args.codec c.args.body.now c.args.buffers.now c.args.needed.now c.loop-index.index default _ _ _ _ c.loop-index-test.true c.is_needed-flag.ensures c.in_err-plain_buffer.ensures c.loop-index.invariant)

pub loop-index-preserved : goal.loop-index-preserved
loop-index-preserved c =
    rw c.in_ok-push.ensures.items (laid_out_more c.args.codec c.args.body.now c.args.buffers.now c.args.needed.now c.loop-index.index default _ _ _ _ _ c.loop-index-test.true c.is_needed-flag.ensures c.in_ok-plain_buffer.ensures c.loop-index.invariant)

pub returns-clause-value : goal.returns-clause-value
returns-clause-value c = laid_out_all c.args.codec c.args.body.now c.args.buffers.now c.args.needed.now c.loop-index.index _ _ c.loop-index-test.false c.loop-index.invariant

pub returns-clause-count : goal.returns-clause-count
returns-clause-count c = laid_out_count c.args.codec c.args.body.now c.args.buffers.now c.args.needed.now c.loop-index.index _ _ c.loop-index-test.false c.loop-index.invariant

pub returns-clause-contents : goal.returns-clause-contents
returns-clause-contents c = laid_out_decodes c.args.codec c.args.body.now c.args.buffers.now c.args.needed.now c.loop-index.index _ _ c.loop-index-test.false c.loop-index.invariant
