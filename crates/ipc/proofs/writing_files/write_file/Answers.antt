use Rattle.std.proofs.Common.{◌≡◌, ◌+◌, List, ℕ, [], None, Ok, length, map, refl, ap, ◌∙◌}
use Rattle.ipc_schema.specs.Schemas.{SchemaModel, schema_of}
use Rattle.ipc_schema.specs.SchemaBytes.{schema_message}
use Rattle.ipc_schema.specs.Projections.{all}
use Rattle.ipc_schema.specs.FooterLaws.{projected_footer_of_all}
use Rattle.ipc_schema.specs.ProjectedFooters.{projected_footer_in}
use Rattle.ipc.specs.Streams.{RecordBatchTree, record_batch_of, column_types}
use Rattle.ipc.specs.EncodedStreams.{encoded_messages, BatchesRoundTrip}
use Rattle.ipc.specs.EncodedFiles.{Blocks, file_dictionary_batches, blocks_from, written_blocks, written_footer, encoded_file, file_state_start, file_batches_error}
use Rattle.ipc.specs.FileLaws.{written_inside, file_round_trips, file_same, shown_alike}
use Rattle.ipc.specs.EncodedBatches.{fields_formed}
use Rattle.ipc.proofs.writing_files.write_file.Goals as goal

pub returns-clause-again : goal.returns-clause-again
unfolding encoded_file
returns-clause-again c =
    let s : SchemaModel = schema_of c.args.schema.now in
    let bs : List RecordBatchTree = map record_batch_of c.args.batches.now in
    let ok : BatchesRoundTrip file_dictionary_batches [] bs = c.in_ok-blocks.ensures.again in
    let form : file_batches_error (column_types s) (file_state_start s) bs ≡ None = c.in_ok-blocks.ensures.form in
    let start : length c.extend_from_slice.new.self.items ≡ 8 = rw (c.in_ok-extend_from_slice.ensures.items, c.new-out.ensures.items) refl in
    let blocks = c.in_ok-blocks.ensures.blocks ∙ ap (λ (n : ℕ). blocks_from (n + length (schema_message s)) [] bs) start in
    let dictionaries : c.deref.result.now ≡ (written_blocks s bs).dictionaries = c.deref.ensures.value ∙ ap (λ (b : Blocks). b.dictionaries) blocks in
    let batches : c.deref-2.result.now ≡ (written_blocks s bs).batches = c.deref-2.ensures.value ∙ ap (λ (b : Blocks). b.batches) blocks in
    let footer : projected_footer_in all (encoded_file s bs) ≡ Ok (projected_footer_of_all (written_footer s bs)) = (rw (dictionaries, batches) at c.in_ok-write_footer.ensures.again) (encoded_messages file_dictionary_batches s bs) (written_inside s bs ok) in
    let bytes : c.write_footer.new.out.items ≡ encoded_file s bs = rw (c.in_ok-write_footer.ensures.bytes, dictionaries, batches, c.in_ok-blocks.ensures.bytes, c.in_ok-extend_from_slice.ensures.items, c.new-out.ensures.items) refl in
    rw bytes (file_round_trips s bs footer (fields_formed s c.in_ok-blocks.ensures.schema) form ok)

pub returns-clause-same : goal.returns-clause-same
returns-clause-same c =
    let s : SchemaModel = schema_of c.args.schema.now in
    file_same s (map record_batch_of c.args.batches.now) (fields_formed s c.in_ok-blocks.ensures.schema) c.in_ok-blocks.ensures.form c.in_ok-blocks.ensures.again

pub returns-clause-plain : goal.returns-clause-plain
returns-clause-plain c =
    let s : SchemaModel = schema_of c.args.schema.now in
    shown_alike s (map record_batch_of c.args.batches.now) (fields_formed s c.in_ok-blocks.ensures.schema) c.in_ok-blocks.ensures.form c.in_ok-blocks.ensures.again
