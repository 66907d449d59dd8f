use Rattle.std.proofs.Common.{◌≡◌, length, ap, ◌∙◌, arith}
use Rattle.ipc.specs.DictionaryEntries.{DictionaryEntries}
use Rattle.ipc.specs.EntriesOf.{by_id}
use Rattle.ipc.specs.Streams.{RecordBatchTree, record_batch_of}
use Rattle.ipc.specs.EncodedStreams.{encoded_batch}
use Rattle.ipc.specs.EncodedFiles.{file_blocks_of, file_dictionary_batches}
use Rattle.ipc_io.specs.FileWriters.{batch_blocks, shifted_blocks}
use Rattle.ipc_io.proofs.Blocks.{dictionaries_end, batch_ends, moved_part, part_made, part_near}
use Rattle.ipc_io.proofs.file_writer.encode_batch_at.Goals as goal

pub shift_all_blocks-requires-clause-dictionaries : goal.shift_all_blocks-requires-clause-dictionaries
shift_all_blocks-requires-clause-dictionaries c =
    let emitted : DictionaryEntries = by_id c.args.emitted.now.entries in
    let b : RecordBatchTree = record_batch_of c.args.batch.now in
    let long : length c.encode_file_batch.new.out.items ≡ length (encoded_batch file_dictionary_batches emitted b) = part_near c.new-bytes.result.items c.encode_file_batch.new.out.items emitted b c.new-bytes.ensures.items c.in_ok-encoded.ensures.bytes in
    let made : file_blocks_of c.encode_file_batch.new.blocks ≡ batch_blocks 0 emitted b = part_made c.new-bytes.result.items (file_blocks_of c.new-blocks.result) (file_blocks_of c.encode_file_batch.new.blocks) emitted b c.new-bytes.ensures.items c.new-blocks.ensures c.in_ok-encoded.ensures.blocks in
    dictionaries_end c.args.position emitted b (file_blocks_of c.encode_file_batch.new.blocks) (omega (arith, long, c.len.ensures, c.encode_file_batch.new.out.ok, c.saturating_sub-room.ensures, c.if-len-room.false)) made

pub shift_all_blocks-requires-clause-batches : goal.shift_all_blocks-requires-clause-batches
shift_all_blocks-requires-clause-batches c =
    let emitted : DictionaryEntries = by_id c.args.emitted.now.entries in
    let b : RecordBatchTree = record_batch_of c.args.batch.now in
    let long : length c.encode_file_batch.new.out.items ≡ length (encoded_batch file_dictionary_batches emitted b) = part_near c.new-bytes.result.items c.encode_file_batch.new.out.items emitted b c.new-bytes.ensures.items c.in_ok-encoded.ensures.bytes in
    let made : file_blocks_of c.encode_file_batch.new.blocks ≡ batch_blocks 0 emitted b = part_made c.new-bytes.result.items (file_blocks_of c.new-blocks.result) (file_blocks_of c.encode_file_batch.new.blocks) emitted b c.new-bytes.ensures.items c.new-blocks.ensures c.in_ok-encoded.ensures.blocks in
    batch_ends c.args.position emitted b (file_blocks_of c.encode_file_batch.new.blocks) (omega (arith, long, c.len.ensures, c.encode_file_batch.new.out.ok, c.saturating_sub-room.ensures, c.if-len-room.false)) made

pub returns-in-Ok-clause-blocks : goal.returns-in-Ok-clause-blocks
returns-in-Ok-clause-blocks c =
    let emitted : DictionaryEntries = by_id c.args.emitted.now.entries in
    let b : RecordBatchTree = record_batch_of c.args.batch.now in
    let made : file_blocks_of c.encode_file_batch.new.blocks ≡ batch_blocks 0 emitted b = part_made c.new-bytes.result.items (file_blocks_of c.new-blocks.result) (file_blocks_of c.encode_file_batch.new.blocks) emitted b c.new-bytes.ensures.items c.new-blocks.ensures c.in_ok-encoded.ensures.blocks in
    c.in-Ok.ensures ∙ ap (shifted_blocks c.args.position) made ∙ moved_part c.args.position emitted b
