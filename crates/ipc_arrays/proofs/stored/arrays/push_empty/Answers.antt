use Rattle.std.proofs.Common.{sym}
use Rattle.ipc_arrays.specs.Stored.{laid_of}
use Rattle.ipc_arrays.proofs.Converting.{laid_none, empty_more}
use Rattle.ipc_arrays.proofs.stored.arrays.push_empty.Goals as goal

pub loop-i-init : goal.loop-i-init
loop-i-init c = sym (laid_none (laid_of c.args.plain.now))

pub loop-i-preserved : goal.loop-i-preserved
loop-i-preserved c = empty_more (laid_of c.args.plain.now) (laid_of c.loop-i.plain) (laid_of c.push_content.new.plain) c.loop-i._i c.loop-i.invariant c.in_ok-push_content.ensures
