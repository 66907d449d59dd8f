use Rattle.std.proofs.Common.{◌≡◌, drop}
use Rattle.ipc_arrays.specs.Stored.{stored_contents, with_stored, laid_of}
use Rattle.ipc_arrays.proofs.stored.contents.append_each.Given as goal

abbrev pub invariant-loop-buffer : goal.invariant-loop-buffer
invariant-loop-buffer l = with_stored (laid_of l.plain) (stored_contents l.codec l.body (drop l.buffer-index l.buffers)) ≡ with_stored (laid_of l.initial.plain) (stored_contents l.codec l.body l.buffers)
