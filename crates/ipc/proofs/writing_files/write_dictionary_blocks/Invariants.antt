use Rattle.std.proofs.Common.{◌≡◌, ◌++◌, length, map, take, None}
use Rattle.std.specs.List.{AllByRecursion, flat_map}
use Rattle.ipc.specs.FileDictionaries.{dictionary_batch_of}
use Rattle.ipc.specs.Streams.{state_of}
use Rattle.ipc.specs.EncodedStreams.{dictionary_bytes, DictionaryRoundTrips}
use Rattle.ipc.specs.EncodedFiles.{dictionary_blocks, after, state_after, dictionary_batches_error}
use Rattle.ipc.proofs.writing_files.write_dictionary_blocks.Given as goal

abbrev pub invariant-loop-put : goal.invariant-loop-put
invariant-loop-put l =
    record {
      written : l.out.items ≡ l.initial.out.items ++ flat_map dictionary_bytes (map dictionary_batch_of (take l.put-index l.puts));
      blocks : l.blocks.items ≡ l.initial.blocks.items ++ dictionary_blocks (length l.initial.out.items) (map dictionary_batch_of (take l.put-index l.puts));
      again : AllByRecursion DictionaryRoundTrips (map dictionary_batch_of (take l.put-index l.puts));
      picked : l.known.picked ≡ l.initial.known.picked;
      known : state_of l.known ≡ after state_after (state_of l.initial.known) (map dictionary_batch_of (take l.put-index l.puts));
      form : dictionary_batches_error (state_of l.initial.known) (map dictionary_batch_of (take l.put-index l.puts)) ≡ None;
    }
