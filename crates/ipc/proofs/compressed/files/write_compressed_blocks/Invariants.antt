use Rattle.std.proofs.Common.{◌≡◌, length, map, take, None}
use Rattle.nest_memory.specs.TypeOf.{field_of}
use Rattle.nest_memory.specs.TypeTree.{field_type}
use Rattle.ipc.specs.EntriesOf.{by_id}
use Rattle.ipc.specs.Streams.{record_batch_of, state_of}
use Rattle.ipc.specs.EncodedStreams.{BatchesRoundTrip}
use Rattle.ipc.specs.EncodedFiles.{file_dictionary_batches, file_blocks_of, after, file_state, file_state_after}
use Rattle.ipc.specs.CompressedFiles.{compressed_file_batches_error}
use Rattle.ipc.specs.CompressedFileLaws.{HasFileBatches}
use Rattle.ipc.proofs.compressed.files.write_compressed_blocks.Given as goal

abbrev pub invariant-loop-batch : goal.invariant-loop-batch
invariant-loop-batch l =
    record {
      written : HasFileBatches (length l.initial.out.items) (by_id l.initial.emitted.entries) (map record_batch_of (take l.batch-index l.batches)) l.initial.out.items l.out.items (file_blocks_of l.blocks);
      last : file_state (by_id l.emitted.entries) (state_of l.known) ≡ after file_state_after (file_state (by_id l.initial.emitted.entries) (state_of l.initial.known)) (map record_batch_of (take l.batch-index l.batches));
      plain : BatchesRoundTrip file_dictionary_batches (by_id l.initial.emitted.entries) (map record_batch_of (take l.batch-index l.batches));
      form : compressed_file_batches_error (map field_type (map field_of l.fields)) (file_state (by_id l.initial.emitted.entries) (state_of l.initial.known)) (map record_batch_of (take l.batch-index l.batches)) ≡ None;
    }
