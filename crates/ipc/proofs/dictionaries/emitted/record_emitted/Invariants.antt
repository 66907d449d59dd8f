use Rattle.std.proofs.Common.{◌≡◌, map, drop}
use Rattle.ipc.specs.PendingDictionaries.{with_entries}
use Rattle.ipc.specs.EntriesOf.{by_id, entry_of}
use Rattle.ipc.proofs.dictionaries.emitted.record_emitted.Given as goal

abbrev pub invariant-loop-id : goal.invariant-loop-id
invariant-loop-id l = with_entries (by_id l.emitted.entries) (map entry_of (drop l.id-index l.pending)) ≡ with_entries (by_id l.initial.emitted.entries) (map entry_of l.pending)
