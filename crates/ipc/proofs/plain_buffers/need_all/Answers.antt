use Rattle.ipc.proofs.Decompression.{needed_more}
use Rattle.ipc.proofs.plain_buffers.need_all.Goals as goal

pub loop-buffer-preserved : goal.loop-buffer-preserved
loop-buffer-preserved c =
    needed_more c.args.buffers.now c.loop-buffer._buffer-index c.loop-buffer.needed.items c.push.new.self.items c.loop-buffer-test.true c.in_ok-push.ensures.items c.loop-buffer.invariant
