use Rattle.std.proofs.Common.{◌≡◌, take}
use Rattle.ipc.specs.PlainBuffers.{all_needed}
use Rattle.ipc.proofs.plain_buffers.need_all.Given as goal

abbrev pub invariant-loop-buffer : goal.invariant-loop-buffer
invariant-loop-buffer l = l.needed.items ≡ all_needed (take l._buffer-index l.buffers)
