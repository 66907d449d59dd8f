use Rattle.std.proofs.Common.{◌≡◌, ◌++◌, map, take, None}
use Rattle.nest_memory.specs.TypeOf.{field_of}
use Rattle.nest_memory.specs.TypeTree.{field_type}
use Rattle.ipc.specs.EntriesOf.{by_id}
use Rattle.ipc.specs.Streams.{record_batch_of}
use Rattle.ipc.specs.EncodedStreams.{stream_dictionary_batches, encoded_batches, batches_error, BatchesRoundTrip}
use Rattle.ipc.specs.EncodedBatches.{emitted_after_all}
use Rattle.ipc.proofs.writing.write_batches.Given as goal

abbrev pub invariant-loop-batch : goal.invariant-loop-batch
invariant-loop-batch l =
    record {
      written : l.out.items ≡ l.initial.out.items ++ encoded_batches stream_dictionary_batches (by_id l.initial.emitted.entries) (map record_batch_of (take l.batch-index l.batches));
      last : by_id l.emitted.entries ≡ emitted_after_all (by_id l.initial.emitted.entries) (map record_batch_of (take l.batch-index l.batches));
      again : BatchesRoundTrip stream_dictionary_batches (by_id l.initial.emitted.entries) (map record_batch_of (take l.batch-index l.batches));
      form : batches_error (map field_type (map field_of l.fields)) (by_id l.initial.emitted.entries) (map record_batch_of (take l.batch-index l.batches)) ≡ None;
    }
