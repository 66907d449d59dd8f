use Rattle.std.specs.Prelude.{pos}
use Rattle.std.proofs.lemmas.Result.{err_from_is_err_and}
use Rattle.ipc_flatbuf.specs.declared.batch.parts.BufferSpec.{BufferSpec}
use Rattle.ipc_arrays.specs.Stored.{stored_contents, with_stored, laid_of}
use Rattle.ipc_arrays.proofs.Converting.{stored_goes_on, stored_ends, stored_is_done}
use Rattle.ipc_arrays.proofs.stored.contents.append_each.Goals as goal

abbrev default : BufferSpec
default = record { offset = pos 0; length = pos 0 }

pub returns-in_err-append_stored : goal.returns-in_err-append_stored
returns-in_err-append_stored c =
    let p = err_from_is_err_and c.from_residual.result c.from_residual.ensures.1 in
    let total = with_stored (laid_of c.args.plain.now) (stored_contents c.args.codec c.args.body.now c.args.buffers.now) in
    rw (p.1, p.2) (stored_ends c.args.codec c.args.body.now c.args.buffers.now c.loop-buffer.buffer-index (laid_of c.loop-buffer.plain) total default c.in_err-append_stored.field-0.0 c.loop-buffer-test.true c.in_err-append_stored.ensures c.loop-buffer.invariant)

pub loop-buffer-preserved : goal.loop-buffer-preserved
loop-buffer-preserved c =
    let total = with_stored (laid_of c.args.plain.now) (stored_contents c.args.codec c.args.body.now c.args.buffers.now) in
    stored_goes_on c.args.codec c.args.body.now c.args.buffers.now c.loop-buffer.buffer-index (laid_of c.loop-buffer.plain) total default (laid_of c.append_stored.new.plain) c.loop-buffer-test.true c.in_ok-append_stored.ensures c.loop-buffer.invariant

pub returns : goal.returns
returns c =
    let total = with_stored (laid_of c.args.plain.now) (stored_contents c.args.codec c.args.body.now c.args.buffers.now) in
    stored_is_done c.args.codec c.args.body.now c.args.buffers.now c.loop-buffer.buffer-index (laid_of c.loop-buffer.plain) total c.loop-buffer-test.false c.loop-buffer.invariant
