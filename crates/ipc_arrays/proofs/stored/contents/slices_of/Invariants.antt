use Rattle.std.proofs.Common.{◌≡◌, drop, map}
use Rattle.std.specs.Prelude.{None}
use Rattle.ipc_arrays.specs.Stored.{stored_contents}
use Rattle.ipc_arrays.proofs.Converting.{with_slices}
use Rattle.ipc_arrays.proofs.stored.contents.slices_of.Given as goal

abbrev pub invariant-loop-buffer : goal.invariant-loop-buffer
invariant-loop-buffer l = with_slices (map (λ s. s.now) l.slices.items) (stored_contents None l.body (drop l.buffer-index l.buffers)) ≡ stored_contents None l.body l.buffers
