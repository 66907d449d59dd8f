use Rattle.ipc_io.specs.Infos.{infos_in}
use Rattle.ipc_io.proofs.InfoLists.{goes_first, goes_on, goes_to_end, goes_wrong, infos_unread}
use Rattle.ipc_io.proofs.info.read_stream_infos.Goals as goal

pub messages-init : goal.messages-init
messages-init g c = goes_first c.args.infos.now.items infos_in (g.R.Read.remaining c.args.reader.now)

pub returns-in-Err : goal.returns-in-Err
returns-in-Err g c = goes_wrong _ _ _ _ c.in-Err.error c.messages.invariant c.in-Err.ensures

pub returns-in-Ok-None : goal.returns-in-Ok-None
returns-in-Ok-None g c = goes_to_end _ _ _ _ c.messages.invariant (rw c.in-Ok-None.field-0-is at c.in-Ok-None.ensures)

pub returns-in-Err-push_info : goal.returns-in-Err-push_info
returns-in-Err-push_info g c = infos_unread _ _ c.in-Err-push_info.error c.in-Err-push_info.ensures.error

pub messages-preserved : goal.messages-preserved
messages-preserved g c = goes_on _ _ _ _ _ c.in-Ok-Some.info c.messages.invariant (rw c.in-Ok-Some.field-0-is at c.in-Ok-Some.ensures) c.in-Ok.ensures.pushed
