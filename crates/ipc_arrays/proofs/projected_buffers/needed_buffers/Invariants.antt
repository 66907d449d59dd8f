use Rattle.std.proofs.Common.{◌≡◌, drop, map}
use Rattle.ipc_arrays.specs.NeededBuffers.{spec_needed_buffers}
use Rattle.ipc_arrays.proofs.Needed.{with_flags}
use Rattle.ipc_arrays.proofs.projected_buffers.needed_buffers.Given as goal

abbrev pub invariant-loop-step : goal.invariant-loop-step
invariant-loop-step g l =
    with_flags l.needed.items (spec_needed_buffers (drop l.step-index l.steps) (map g.A.HasDataType.tree (drop l.k l.types)) l.counts l.rest) ≡ spec_needed_buffers l.steps (map g.A.HasDataType.tree l.types) l.more l.buffers
