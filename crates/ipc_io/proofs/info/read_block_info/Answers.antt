use Rattle.ipc_io.proofs.BlockInfos.{block_info, block_unread}
use Rattle.ipc_io.proofs.info.read_block_info.Goals as goal

pub returns-in-Err-clause-info : goal.returns-in-Err-clause-info
returns-in-Err-clause-info g c = block_unread c.args.wanted c.args.block _ c.in-Err.error c.in-Err.ensures.err

pub returns-in-Ok-clause-info : goal.returns-in-Ok-clause-info
returns-in-Ok-clause-info g c = block_info c.args.wanted c.args.block _ c.in-Ok.front.items c.deref.result.now c.info_before_body.result c.in-Ok.ensures.front c.deref.ensures.value c.info_before_body.ensures
