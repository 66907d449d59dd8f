use Rattle.ipc_io.proofs.Ranges.{kept_on, part_is}
use Rattle.ipc_io.proofs.seeking.read_range.Goals as goal

pub returns-in_err-fill-clause-kept : goal.returns-in_err-fill-clause-kept
returns-in_err-fill-clause-kept g c = kept_on _ _ _ c.seek_to.ensures.kept c.fill.ensures.kept

pub returns-clause-part : goal.returns-clause-part
returns-clause-part g c = part_is _ _ _ _ _ _ _ c.new-buf.ensures.items c.in_ok-seek_to.ensures.moves c.in_ok-fill.ensures.read

pub returns-clause-kept : goal.returns-clause-kept
returns-clause-kept g c = kept_on _ _ _ c.seek_to.ensures.kept c.fill.ensures.kept
