use Rattle.std.specs.Prelude.{pos}
use Rattle.ipc_flatbuf.specs.declared.batch.parts.BufferSpec.{BufferSpec}
use Rattle.ipc.proofs.Bodies.{is_within, none_compressed, one_compressed, all_compressed}
use Rattle.ipc.proofs.compressed.body.compress_body.Goals as goal

abbrev default : BufferSpec
default = record { offset = pos 0; length = pos 0 }

pub loop-buffer-init : goal.loop-buffer-init
loop-buffer-init c = none_compressed c.args.body.now c.args.buffers.now _ _ c.new-compressed.ensures.items c.new-out.ensures.items

pub buffer_bytes-content-requires : goal.buffer_bytes-content-requires
buffer_bytes-content-requires c = is_within _ c.args.buffers.now c.loop-buffer.buffer-index default c.requires c.loop-buffer-test.true

pub loop-buffer-preserved : goal.loop-buffer-preserved
loop-buffer-preserved c =
    one_compressed c.args.body.now c.args.buffers.now c.loop-buffer.buffer-index default c.buffer_bytes-content.result.now _ _ c.in_ok-spec.spec _ _ c.loop-buffer-test.true
    c.buffer_bytes-content.ensures c.in_ok-spec.ensures c.in_ok-push.ensures.items c.loop-buffer.invariant

pub returns : goal.returns
returns c = all_compressed c.args.body.now c.args.buffers.now c.loop-buffer.buffer-index _ _ c.loop-buffer-test.false c.loop-buffer.invariant
