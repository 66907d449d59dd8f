use Rattle.std.proofs.Common.{◌≡◌, ◌-◌, ◌++◌, replicate}
use Rattle.ipc_arrays.specs.NeededBuffers.{flags}
use Rattle.ipc_arrays.proofs.projected_buffers.push_flags.Given as goal

abbrev pub invariant-loop-i : goal.invariant-loop-i
invariant-loop-i l = l.needed.items ++ replicate (l.count - l._i) l.is_needed ≡ l.initial.needed.items ++ flags l.buffers l.rest l.is_needed
