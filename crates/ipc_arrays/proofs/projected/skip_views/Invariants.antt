use Rattle.std.proofs.Common.{◌≡◌, ◌-◌}
use Rattle.ipc_arrays.specs.Projection.{skipped_views}
use Rattle.ipc_arrays.proofs.projected.skip_views.Given as goal

abbrev pub invariant-loop-i : goal.invariant-loop-i
invariant-loop-i l = skipped_views (l.views - l._i) l.counts l.left ≡ skipped_views l.views l.more l.buffers
