use Rattle.std.proofs.Common.{◌≡◌, ◌∙◌, List, ℕ, length, Some, refl}
use Rattle.std.proofs.lemmas.Result.{err_from_is_err_and}
use Rattle.ipc_flatbuf.specs.declared.compression.codec.CompressionCodec.TheVariants.{Lz4Frame}
use Rattle.ipc_flatbuf.specs.Messages.{MessageModel, model_of}
use Rattle.ipc_flatbuf.specs.Batches.{BatchModel, batch_of}
use Rattle.ipc.specs.CompressedBodies.{CompressesBody}
use Rattle.ipc.proofs.MessageLoops.{same_dictionary, same_batch, all_within, has_contents, message_appended, message_refused, message_accepted}
use Rattle.ipc.proofs.compressed.messages.compress_message.Goals as goal

pub compress_body-requires : goal.compress_body-requires
compress_body-requires c =
    let header = c.in_ok-header.header in
    rw c.deref.ensures.value (all_within (model_of c.args.message) c.requires.says.0 c.requires.says.1 header.dictionary (batch_of header.batch) c.in_ok-header.ensures.read)

pub returns-in_err-write_header-clause-err : goal.returns-in_err-write_header-clause-err
returns-in_err-write_header-clause-err c = λ m says.
    let parts : MessageModel = model_of c.args.message in
    let header = c.in_ok-header.header in
    let batch : BatchModel = batch_of header.batch in
    let read = c.in_ok-header.ensures.read in
    let specs = c.in_ok-buffers.buffers.items in
    let body : List ℕ = c.in_ok-buffers.body.items in
    let after : BatchModel = record { rows = batch.rows; nodes = batch.nodes; buffers = specs; compression = Some Lz4Frame } in
    let compressed : CompressesBody m.contents specs body = c.in_ok-buffers.ensures m.contents (rw c.deref.ensures.value (has_contents parts m says header.dictionary batch read)) in
    let long : c.len.result ≡ length body = c.len.ensures ∙ c.in_ok-buffers.body.ok.0 in
    let p = err_from_is_err_and c.from_residual-in_err-write_header.result c.from_residual-in_err-write_header.ensures.1 in
    rw (p.1, p.2) (message_refused m header.dictionary batch after specs body compressed (same_dictionary parts m says header.dictionary batch read) (same_batch parts m says header.dictionary batch read) refl _ (rw long at c.in_err-write_header.ensures.err))

pub returns-clause-ok : goal.returns-clause-ok
returns-clause-ok c = λ m says.
    let parts : MessageModel = model_of c.args.message in
    let header = c.in_ok-header.header in
    let batch : BatchModel = batch_of header.batch in
    let read = c.in_ok-header.ensures.read in
    let specs = c.in_ok-buffers.buffers.items in
    let body : List ℕ = c.in_ok-buffers.body.items in
    let after : BatchModel = record { rows = batch.rows; nodes = batch.nodes; buffers = specs; compression = Some Lz4Frame } in
    let compressed : CompressesBody m.contents specs body = c.in_ok-buffers.ensures m.contents (rw c.deref.ensures.value (has_contents parts m says header.dictionary batch read)) in
    let long : c.len.result ≡ length body = c.len.ensures ∙ c.in_ok-buffers.body.ok.0 in
    let written = c.in_ok-write_header.ensures in
    message_appended m header.dictionary batch after specs body compressed (same_dictionary parts m says header.dictionary batch read) (same_batch parts m says header.dictionary batch read) refl
    c.args.out.now.items c.write_header.new.out.items c.extend_from_slice.new.self.items (rw long at written.bytes) (rw c.deref-2.ensures.value at c.in_ok-extend_from_slice.ensures.items) (rw long at written.small) (rw long at written.again)

pub returns-clause-form : goal.returns-clause-form
returns-clause-form c = λ m says.
    let parts : MessageModel = model_of c.args.message in
    let header = c.in_ok-header.header in
    let batch : BatchModel = batch_of header.batch in
    let read = c.in_ok-header.ensures.read in
    let specs = c.in_ok-buffers.buffers.items in
    let body : List ℕ = c.in_ok-buffers.body.items in
    let after : BatchModel = record { rows = batch.rows; nodes = batch.nodes; buffers = specs; compression = Some Lz4Frame } in
    let compressed : CompressesBody m.contents specs body = c.in_ok-buffers.ensures m.contents (rw c.deref.ensures.value (has_contents parts m says header.dictionary batch read)) in
    let long : c.len.result ≡ length body = c.len.ensures ∙ c.in_ok-buffers.body.ok.0 in
    let written = c.in_ok-write_header.ensures in
    message_accepted m header.dictionary batch after specs body compressed (same_dictionary parts m says header.dictionary batch read) (same_batch parts m says header.dictionary batch read) refl written.rows (rw long at written.small)
