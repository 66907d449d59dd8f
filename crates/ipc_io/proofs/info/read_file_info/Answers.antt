use Rattle.std.proofs.Common.{rules}
use Rattle.ipc_io.proofs.BlockInfos.{file_returned, footer_fails}
use Rattle.ipc_io.proofs.info.read_file_info.Goals as goal

pub returns-in-Err : goal.returns-in-Err
returns-in-Err g c = footer_fails _ c.in-Err.error c.in-Err.ensures.footer

pub returns-in-Ok : goal.returns-in-Ok
returns-in-Ok g c =
    file_returned _ _ c.in-Ok.footer _ c.new-batches.result.items c.read_file_infos-read.new.infos.items c.deref.result.now c.deref-in-Ok.result.now c.read_file_infos-read.result c.info_or_error.result c.in-Ok.ensures.footer c.find_blocks.ensures.kept (search rules) (search rules)
    c.deref.ensures.value c.deref-in-Ok.ensures.value c.read_file_infos-read.ensures (c.info_or_error.ensures.info, c.info_or_error.ensures.error)
