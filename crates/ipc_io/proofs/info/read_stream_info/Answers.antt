use Rattle.std.proofs.Common.{rules}
use Rattle.ipc_io.proofs.StreamInfos.{schema_fails, stream_returned}
use Rattle.ipc_io.proofs.info.read_stream_info.Goals as goal

pub returns-in-Err : goal.returns-in-Err
returns-in-Err g c = schema_fails _ _ c.in-Err.error c.in-Err.ensures

pub returns-in-Ok : goal.returns-in-Ok
returns-in-Ok g c =
    stream_returned _ _ c.in-Ok.picked _ c.new-batches.result.items c.read_stream_infos-read.new.infos.items c.read_stream_infos-read.result c.info_or_error.result c.in-Ok.ensures (search rules) (search rules) c.read_stream_infos-read.ensures (c.info_or_error.ensures.info, c.info_or_error.ensures.error)
