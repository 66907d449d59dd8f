use Rattle.std.proofs.Common.{◌≡◌, List, ℕ, ◌++◌, ◌^◌, ◌<◌, map, length, refl, ap, subst, ◌∙◌}
use Rattle.std.proofs.lemmas.Result.{err_from_is_err_and}
use Rattle.ipc_schema.specs.Schemas.{SchemaModel, schema_of}
use Rattle.ipc_schema.specs.Footers.{FooterModel}
use Rattle.ipc_schema.specs.FooterBytes.{footer_bytes, file_head, file_end}
use Rattle.ipc_schema.specs.FooterLaws.{FooterRoundTrips}
use Rattle.ipc_schema.specs.WriteChecks.{IsSchemaWriteError, check_fields}
use Rattle.ipc.specs.Streams.{RecordBatchTree, record_batch_of, column_types}
use Rattle.ipc.specs.Files.{file_in}
use Rattle.ipc.specs.EncodedFiles.{Blocks, file_blocks_of, file_state_start}
use Rattle.ipc.specs.EncodedBatches.{fields_formed}
use Rattle.ipc.specs.FileLaws.{file_same}
use Rattle.ipc.specs.CompressedFiles.{footer_with_blocks, footer_of_messages}
use Rattle.ipc.specs.CompressedFileLaws.{HasFileMessages, IsWrittenFile, file_written, file_back, file_refused, file_accepted, messages_refused_file, footer_is, plain_accepts}
use Rattle.ipc.proofs.compressed.files.write_compressed_file.Goals as goal

pub returns-in_err-blocks-clause-err : goal.returns-in_err-blocks-clause-err
returns-in_err-blocks-clause-err c =
    let s : SchemaModel = schema_of c.args.schema.now in
    let bs : List RecordBatchTree = map record_batch_of c.args.batches.now in
    let p = err_from_is_err_and c.from_residual-in_err-blocks.result c.from_residual-in_err-blocks.ensures.1 in
    rw (p.1, p.2) (messages_refused_file s bs _ c.in_err-blocks.ensures.err)

pub returns-in_err-write_footer-clause-err : goal.returns-in_err-write_footer-clause-err
returns-in_err-write_footer-clause-err c =
    let s : SchemaModel = schema_of c.args.schema.now in
    let bs : List RecordBatchTree = map record_batch_of c.args.batches.now in
    let blocks : Blocks = file_blocks_of c.in_ok-blocks.blocks in
    let first : List ℕ = c.extend_from_slice.new.self.items in
    let out : List ℕ = c.write_compressed_messages.new.out.items in
    let headed : first ≡ file_head = rw (c.in_ok-extend_from_slice.ensures.items, c.new-out.ensures.items) refl in
    let has : HasFileMessages s bs first out blocks = c.in_ok-blocks.ensures.bytes in
    let footer : footer_with_blocks s blocks ≡ footer_of_messages s has.parts = footer_is s bs first out blocks headed has in
    let p = err_from_is_err_and c.from_residual-in_err-write_footer.result c.from_residual-in_err-write_footer.ensures.1 in
    let refused = rw (c.deref.ensures.value, c.deref-2.ensures.value) at c.in_err-write_footer.ensures.err in
    rw (p.1, p.2) (file_refused s bs has.parts _ has.are c.in_ok-blocks.ensures.schema c.in_ok-blocks.ensures.form (subst (λ (f : FooterModel). IsSchemaWriteError (check_fields s.fields) (length (footer_bytes f)) c.in_err-write_footer.field-0.0) footer refused))

pub returns-clause-form : goal.returns-clause-form
returns-clause-form c =
    let s : SchemaModel = schema_of c.args.schema.now in
    let bs : List RecordBatchTree = map record_batch_of c.args.batches.now in
    let blocks : Blocks = file_blocks_of c.in_ok-blocks.blocks in
    let first : List ℕ = c.extend_from_slice.new.self.items in
    let out : List ℕ = c.write_compressed_messages.new.out.items in
    let headed : first ≡ file_head = rw (c.in_ok-extend_from_slice.ensures.items, c.new-out.ensures.items) refl in
    let has : HasFileMessages s bs first out blocks = c.in_ok-blocks.ensures.bytes in
    let footer : footer_with_blocks s blocks ≡ footer_of_messages s has.parts = footer_is s bs first out blocks headed has in
    let small = rw (c.deref.ensures.value, c.deref-2.ensures.value) at c.in_ok-write_footer.ensures.small in
    file_accepted s bs has.parts has.are c.in_ok-blocks.ensures.schema c.in_ok-blocks.ensures.form (subst (λ (f : FooterModel). length (footer_bytes f) < 2 ^ 31) footer small)

pub returns-clause-bytes : goal.returns-clause-bytes
returns-clause-bytes c =
    let s : SchemaModel = schema_of c.args.schema.now in
    let bs : List RecordBatchTree = map record_batch_of c.args.batches.now in
    let blocks : Blocks = file_blocks_of c.in_ok-blocks.blocks in
    let first : List ℕ = c.extend_from_slice.new.self.items in
    let out : List ℕ = c.write_compressed_messages.new.out.items in
    let headed : first ≡ file_head = rw (c.in_ok-extend_from_slice.ensures.items, c.new-out.ensures.items) refl in
    let has : HasFileMessages s bs first out blocks = c.in_ok-blocks.ensures.bytes in
    let ended : c.write_footer.new.out.items ≡ out ++ file_end (footer_with_blocks s blocks) = rw (c.deref.ensures.value, c.deref-2.ensures.value) at c.in_ok-write_footer.ensures.bytes in
    let written : IsWrittenFile s bs c.write_footer.new.out.items blocks = file_written s bs first out c.write_footer.new.out.items blocks headed has ended in
    (written.parts, written.are, written.bytes)

pub returns-clause-again : goal.returns-clause-again
returns-clause-again c =
    let s : SchemaModel = schema_of c.args.schema.now in
    let bs : List RecordBatchTree = map record_batch_of c.args.batches.now in
    let blocks : Blocks = file_blocks_of c.in_ok-blocks.blocks in
    let first : List ℕ = c.extend_from_slice.new.self.items in
    let out : List ℕ = c.write_compressed_messages.new.out.items in
    let headed : first ≡ file_head = rw (c.in_ok-extend_from_slice.ensures.items, c.new-out.ensures.items) refl in
    let has : HasFileMessages s bs first out blocks = c.in_ok-blocks.ensures.bytes in
    let ended : c.write_footer.new.out.items ≡ out ++ file_end (footer_with_blocks s blocks) = rw (c.deref.ensures.value, c.deref-2.ensures.value) at c.in_ok-write_footer.ensures.bytes in
    let written : IsWrittenFile s bs c.write_footer.new.out.items blocks = file_written s bs first out c.write_footer.new.out.items blocks headed has ended in
    let back : FooterRoundTrips (footer_of_messages s written.parts) = subst FooterRoundTrips written.footer (rw (c.deref.ensures.value, c.deref-2.ensures.value) at c.in_ok-write_footer.ensures.again) in
    ap file_in written.bytes ∙ file_back s bs written.parts written.are back (fields_formed s c.in_ok-blocks.ensures.schema) c.in_ok-blocks.ensures.form c.in_ok-blocks.ensures.plain

pub returns-clause-same : goal.returns-clause-same
returns-clause-same c =
    let s : SchemaModel = schema_of c.args.schema.now in
    let bs : List RecordBatchTree = map record_batch_of c.args.batches.now in
    file_same s bs (fields_formed s c.in_ok-blocks.ensures.schema) (plain_accepts (column_types s) (file_state_start s) bs c.in_ok-blocks.ensures.form) c.in_ok-blocks.ensures.plain
