use Rattle.std.proofs.Common.{◌≡◌, map, take, None}
use Rattle.nest_memory.specs.TypeOf.{field_of}
use Rattle.nest_memory.specs.TypeTree.{field_type}
use Rattle.ipc.specs.EntriesOf.{by_id}
use Rattle.ipc.specs.Streams.{record_batch_of}
use Rattle.ipc.specs.EncodedStreams.{stream_dictionary_batches, BatchesRoundTrip}
use Rattle.ipc.specs.EncodedBatches.{emitted_after_all}
use Rattle.ipc.specs.CompressedStreams.{AppendsCompressedBatches, compressed_batches_error}
use Rattle.ipc.proofs.compressed.streams.write_compressed_batches.Given as goal

abbrev pub invariant-loop-batch : goal.invariant-loop-batch
invariant-loop-batch l =
    record {
      written : AppendsCompressedBatches (by_id l.initial.emitted.entries) (map record_batch_of (take l.batch-index l.batches)) l.initial.out.items l.out.items;
      last : by_id l.emitted.entries ≡ emitted_after_all (by_id l.initial.emitted.entries) (map record_batch_of (take l.batch-index l.batches));
      plain : BatchesRoundTrip stream_dictionary_batches (by_id l.initial.emitted.entries) (map record_batch_of (take l.batch-index l.batches));
      form : compressed_batches_error (map field_type (map field_of l.fields)) (by_id l.initial.emitted.entries) (map record_batch_of (take l.batch-index l.batches)) ≡ None;
    }
