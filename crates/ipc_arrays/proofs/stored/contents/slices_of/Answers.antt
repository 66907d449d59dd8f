use Rattle.std.proofs.Common.{◌∷◌, [], map}
use Rattle.std.specs.Prelude.{pos, None}
use Rattle.std.proofs.lemmas.List.{map-append}
use Rattle.std.proofs.lemmas.Result.{err_from_is_err_and}
use Rattle.ipc_flatbuf.specs.declared.batch.parts.BufferSpec.{BufferSpec}
use Rattle.ipc_arrays.specs.Stored.{stored_contents}
use Rattle.ipc_arrays.proofs.Converting.{slices_start, slices_go_on, slices_end, slices_are_done, as_stored}
use Rattle.ipc_arrays.proofs.stored.contents.slices_of.Goals as goal

abbrev default : BufferSpec
default = record { offset = pos 0; length = pos 0 }

pub loop-buffer-init : goal.loop-buffer-init
loop-buffer-init c = rw c.new-slices.ensures.items (slices_start (stored_contents None c.args.body.now c.args.buffers.now))

pub returns-in_err-bytes : goal.returns-in_err-bytes
returns-in_err-bytes c =
    let p = err_from_is_err_and c.from_residual.result c.from_residual.ensures.1 in
    rw (p.1, p.2) (λ known. slices_end c.args.body.now c.args.buffers.now c.loop-buffer.buffer-index (map (λ s. s.now) c.loop-buffer.slices.items) (stored_contents None c.args.body.now c.args.buffers.now) default c.in_err-bytes.field-0.0 c.loop-buffer-test.true (as_stored _ _ _ c.in_err-bytes.ensures) c.loop-buffer.invariant)

pub loop-buffer-preserved : goal.loop-buffer-preserved
loop-buffer-preserved c =
    rw (c.in_ok-push.ensures.items, map-append (λ s. s.now) c.loop-buffer.slices.items (c.in_ok-bytes.bytes ∷ []))
    (slices_go_on c.args.body.now c.args.buffers.now c.loop-buffer.buffer-index (map (λ s. s.now) c.loop-buffer.slices.items) (stored_contents None c.args.body.now c.args.buffers.now) default c.in_ok-bytes.bytes.now c.loop-buffer-test.true (as_stored _ _ _ c.in_ok-bytes.ensures) c.loop-buffer.invariant)

pub returns : goal.returns
returns c = slices_are_done c.args.body.now c.args.buffers.now c.loop-buffer.buffer-index (map (λ s. s.now) c.loop-buffer.slices.items) (stored_contents None c.args.body.now c.args.buffers.now) c.loop-buffer-test.false c.loop-buffer.invariant
