use Rattle.std.proofs.Common.{◌≡◌, ◌++◌, map, take, None}
use Rattle.std.specs.List.{AllByRecursion, flat_map}
use Rattle.ipc.specs.FileDictionaries.{whole}
use Rattle.ipc.specs.EntriesOf.{entry_of}
use Rattle.ipc.specs.EncodedStreams.{dictionary_bytes, dictionary_error, each_error, DictionaryRoundTrips}
use Rattle.ipc.proofs.writing.write_dictionaries.Given as goal

abbrev pub invariant-loop-id : goal.invariant-loop-id
invariant-loop-id l =
    record {
      written : l.out.items ≡ l.initial.out.items ++ flat_map dictionary_bytes (map whole (map entry_of (take l.id-index l.pending)));
      again : AllByRecursion DictionaryRoundTrips (map whole (map entry_of (take l.id-index l.pending)));
      form : each_error dictionary_error (map whole (map entry_of (take l.id-index l.pending))) ≡ None;
    }
