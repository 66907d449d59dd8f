use Rattle.std.proofs.Common.{◌++◌}
use Rattle.ipc_arrays.specs.NeededBuffers.{flags}
use Rattle.ipc_arrays.proofs.Needed.{flag_more, flags_done, flags_start}
use Rattle.ipc_arrays.proofs.projected_buffers.push_flags.Goals as goal

pub loop-i-init : goal.loop-i-init
loop-i-init c = flags_start c.args.needed.now.items c.args.is_needed c.saturating_sub-count.result _ c.saturating_sub-count.ensures

pub loop-i-preserved : goal.loop-i-preserved
loop-i-preserved c =
    flag_more c.args.is_needed c.saturating_sub-count.result c.loop-i._i (c.args.needed.now.items ++ flags c.args.buffers.now c.args.rest.now c.args.is_needed) c.loop-i.needed.items c.push.new.self.items c.loop-i-test.true c.in_ok-push.ensures.items c.loop-i.invariant

pub returns : goal.returns
returns c =
    flags_done c.args.is_needed c.saturating_sub-count.result c.loop-i._i (c.args.needed.now.items ++ flags c.args.buffers.now c.args.rest.now c.args.is_needed) c.loop-i.needed.items c.loop-i-test.false c.loop-i.invariant
