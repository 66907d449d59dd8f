use Rattle.std.proofs.Common.{◌≡◌, map, drop}
use Rattle.ipc.specs.FileDictionaries.{spec_any_replaced}
use Rattle.ipc.specs.EntriesOf.{by_id, entry_of}
use Rattle.ipc.proofs.dictionaries.batches.any_replaced.Given as goal

abbrev pub invariant-loop-id : goal.invariant-loop-id
invariant-loop-id l = spec_any_replaced (by_id l.emitted.entries) (map entry_of (drop l.id-index l.pending)) ≡ spec_any_replaced (by_id l.emitted.entries) (map entry_of l.pending)
