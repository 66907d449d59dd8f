use Rattle.std.proofs.Common.{◌≡◌, ◌++◌, map, drop, false}
use Rattle.ipc.specs.FileDictionaries.{dictionary_batch_of, spec_dictionary_batches, spec_any_replaced}
use Rattle.ipc.specs.EntriesOf.{by_id, entry_of}
use Rattle.ipc.proofs.dictionaries.batches.dictionary_batches.Given as goal

abbrev pub invariant-loop-id : goal.invariant-loop-id
invariant-loop-id l =
    (spec_any_replaced (by_id l.emitted.entries) (map entry_of (drop l.id-index l.pending)) ≡ false)
    × (map dictionary_batch_of l.puts.items ++ spec_dictionary_batches (by_id l.emitted.entries) (map entry_of (drop l.id-index l.pending)) ≡ spec_dictionary_batches (by_id l.emitted.entries) (map entry_of l.pending))
