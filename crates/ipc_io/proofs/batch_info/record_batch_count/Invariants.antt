use Rattle.std.proofs.Common.{◌≡◌, ◌≤◌, take}
use Rattle.std.specs.List.{sum_by}
use Rattle.ipc_io.specs.BatchInfos.{record_count}
use Rattle.ipc_io.proofs.batch_info.record_batch_count.Given as goal

abbrev pub invariant-loop-info : goal.invariant-loop-info
invariant-loop-info l = (l.count ≡ sum_by record_count (take l.info-index l.infos)) × (l.count ≤ l.info-index)
