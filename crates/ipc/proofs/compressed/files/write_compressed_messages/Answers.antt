use Rattle.std.proofs.Common.{◌≡◌, List, ℕ, [], ◌++◌, length, Ok, map, ap, ◌∙◌}
use Rattle.std.proofs.lemmas.Result.{err_from_is_err_and}
use Rattle.ipc_schema.specs.ProjectionLaws.{all_written}
use Rattle.ipc_schema.specs.Projections.{all}
use Rattle.ipc_schema.specs.ProjectedSchemas.{stream_projected_schema_at}
use Rattle.ipc_schema.specs.Schemas.{SchemaModel, schema_of}
use Rattle.ipc_schema.specs.SchemaBytes.{schema_message}
use Rattle.ipc.specs.EntriesOf.{by_id}
use Rattle.ipc.specs.Streams.{RecordBatchTree, record_batch_of, state_of, start, column_types}
use Rattle.ipc.specs.EncodedStreams.{schema_error}
use Rattle.ipc.specs.EncodedFiles.{file_blocks_of, file_state_start}
use Rattle.ipc.specs.EncodedBatches.{later_refused, schema_accepted}
use Rattle.ipc.specs.CompressedFiles.{compressed_file_batches_error}
use Rattle.ipc.specs.CompressedFileLaws.{HasFileBatches, file_messages_end}
use Rattle.ipc.proofs.WriteErrors.{known_start}
use Rattle.ipc.proofs.compressed.files.write_compressed_messages.Goals as goal

pub returns-in_err-blocks-clause-err : goal.returns-in_err-blocks-clause-err
returns-in_err-blocks-clause-err c =
    let s : SchemaModel = schema_of c.args.schema.now in
    let bs : List RecordBatchTree = map record_batch_of c.args.batches.now in
    let said = c.in_ok-message.ensures in
    let keyed : (after : List ℕ) → stream_projected_schema_at all (schema_message s ++ after) ≡ Ok (all_written s, after) = rw said.bytes at said.columns in
    let none : by_id c.new-emitted.result.entries ≡ [] = ap by_id c.new-emitted.ensures.empty in
    let known : state_of c.in_ok-known.known ≡ start (all_written s) = known_start s c.deref-2.result.now (state_of c.in_ok-known.known) (c.deref-2.ensures.value ∙ said.bytes) keyed c.in_ok-known.ensures.state in
    let e = err_from_is_err_and c.from_residual-in_err-blocks.result c.from_residual-in_err-blocks.ensures.1 in
    rw (e.1, e.2) (later_refused (schema_error s) (compressed_file_batches_error (column_types s) (file_state_start s) bs) _ (schema_accepted s said.form said.small) (rw (c.deref-3.ensures.value, none, known) at c.in_err-blocks.ensures.err))

pub returns-clause-bytes : goal.returns-clause-bytes
returns-clause-bytes c =
    let s : SchemaModel = schema_of c.args.schema.now in
    let bs : List RecordBatchTree = map record_batch_of c.args.batches.now in
    let said = c.in_ok-message.ensures in
    let old : List ℕ = c.args.out.now.items in
    let first : List ℕ = c.extend_from_slice.new.self.items in
    let out : List ℕ = c.write_compressed_blocks.new.out.items in
    let none : by_id c.new-emitted.result.entries ≡ [] = ap by_id c.new-emitted.ensures.empty in
    let headed : first ≡ old ++ schema_message s = c.in_ok-extend_from_slice.ensures.items ∙ ap (λ (x : List ℕ). old ++ x) (c.deref.ensures.value ∙ said.bytes) in
    let has : HasFileBatches (length first) [] bs first out (file_blocks_of c.in_ok-blocks.blocks) = rw none at c.in_ok-blocks.ensures.bytes in
    file_messages_end s bs old first out c.extend_from_slice-2.new.self.items (file_blocks_of c.in_ok-blocks.blocks) headed has c.in_ok-extend_from_slice-2.ensures.items

pub returns-clause-form : goal.returns-clause-form
returns-clause-form c =
    let s : SchemaModel = schema_of c.args.schema.now in
    let said = c.in_ok-message.ensures in
    let keyed : (after : List ℕ) → stream_projected_schema_at all (schema_message s ++ after) ≡ Ok (all_written s, after) = rw said.bytes at said.columns in
    let none : by_id c.new-emitted.result.entries ≡ [] = ap by_id c.new-emitted.ensures.empty in
    let known : state_of c.in_ok-known.known ≡ start (all_written s) = known_start s c.deref-2.result.now (state_of c.in_ok-known.known) (c.deref-2.ensures.value ∙ said.bytes) keyed c.in_ok-known.ensures.state in
    rw (c.deref-3.ensures.value, none, known) at c.in_ok-blocks.ensures.form
