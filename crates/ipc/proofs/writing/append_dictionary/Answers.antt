use mir.Syntax.{w64}
use mir.Val.{to_z, of_z}
use Rattle.std.proofs.Common.{◌≡◌, [], ◌∷◌}
use Rattle.std.proofs.lemmas.Int.{to_z-of_z}
use Rattle.std.specs.Prelude.{ℤ}
use Rattle.std.proofs.lemmas.Result.{err_from_is_err_and}
use Rattle.nest_model.specs.Layout.{Layout}
use Rattle.nest_array.specs.Seen.{layout_of}
use Rattle.ipc_flatbuf.specs.Batches.{batch_of}
use Rattle.ipc_flatbuf.specs.DictionaryBytes.{dictionary_message}
use Rattle.ipc_flatbuf.specs.DictionaryLaws.{DictionaryRoundTrips}
use Rattle.ipc_arrays.specs.ReplacedValues.{RoundTripOverExtensions}
use Rattle.ipc.specs.FileDictionaries.{DictionaryBatchTree}
use Rattle.ipc.specs.Streams.{RecordBatchTree}
use Rattle.ipc.specs.EncodedStreams.{one_column, dictionary_head, dictionary_bytes, dictionary_error}
use Rattle.ipc.specs.EncodedBatches.{IsMetadata}
use Rattle.ipc.specs.EncodedStreamLaws.{dictionary_again}
use Rattle.ipc.proofs.WriteErrors.{columns_refused, head_refused, head_accepted, head_written, head_again}
use Rattle.ipc.proofs.writing.append_dictionary.Goals as goal

pub returns-in_err-metadata-clause-err : goal.returns-in_err-metadata-clause-err
unfolding dictionary_error
returns-in_err-metadata-clause-err c =
    let p : DictionaryBatchTree = (c.args.delta, (c.args.id, layout_of c.args.values.now)) in
    let b : RecordBatchTree = one_column p.1.1 in
    let q = err_from_is_err_and c.from_residual.result c.from_residual.ensures.1 in
    rw (q.1, q.2) (columns_refused b.columns b.rows (dictionary_head p) _ (rw c.from_ref-columns.ensures.value at c.in_err-metadata.ensures.err))

pub returns-in_err-write_dictionary-clause-err : goal.returns-in_err-write_dictionary-clause-err
unfolding dictionary_error
returns-in_err-write_dictionary-clause-err c =
    let p : DictionaryBatchTree = (c.args.delta, (c.args.id, layout_of c.args.values.now)) in
    let b : RecordBatchTree = one_column p.1.1 in
    let said = c.in_ok-metadata in
    let id : to_z w64 (of_z w64 p.1.0) ≡ p.1.0 = to_z-of_z w64 p.1.0 c.ranges.id in
    let metadata : IsMetadata b (batch_of said.metadata) said.body_length = rw (c.len.ensures, c.from_ref-columns.ensures.value) at said.ensures.metadata in
    let q = err_from_is_err_and c.from_residual-in_err-write_dictionary.result c.from_residual-in_err-write_dictionary.ensures.1 in
    rw (q.1, q.2) (head_refused (dictionary_message p.0 p.1.0) b (batch_of said.metadata) said.body_length metadata _ (rw c.from_ref-columns.ensures.value at said.ensures.form) (rw id at c.in_err-write_dictionary.ensures.err))

pub returns-clause-again : goal.returns-clause-again
returns-clause-again c =
    let p : DictionaryBatchTree = (c.args.delta, (c.args.id, layout_of c.args.values.now)) in
    let b : RecordBatchTree = one_column p.1.1 in
    let said = c.in_ok-metadata in
    let id : to_z w64 (of_z w64 p.1.0) ≡ p.1.0 = to_z-of_z w64 p.1.0 c.ranges.id in
    let metadata : IsMetadata b (batch_of said.metadata) said.body_length = rw (c.len.ensures, c.from_ref-columns.ensures.value) at said.ensures.metadata in
    let over : RoundTripOverExtensions (p.1.1 ∷ []) = rw c.from_ref-columns.ensures.value at c.in_ok-write_columns.ensures.over in
    dictionary_again p (head_again (dictionary_message p.0 p.1.0) b (batch_of said.metadata) said.body_length metadata (DictionaryRoundTrips p.0 p.1.0) (rw id at c.in_ok-write_dictionary.ensures.again) (rw id at c.in_ok-write_dictionary.ensures.form.1)) over

pub returns-clause-form : goal.returns-clause-form
unfolding dictionary_error
returns-clause-form c =
    let p : DictionaryBatchTree = (c.args.delta, (c.args.id, layout_of c.args.values.now)) in
    let b : RecordBatchTree = one_column p.1.1 in
    let said = c.in_ok-metadata in
    let id : to_z w64 (of_z w64 p.1.0) ≡ p.1.0 = to_z-of_z w64 p.1.0 c.ranges.id in
    let metadata : IsMetadata b (batch_of said.metadata) said.body_length = rw (c.len.ensures, c.from_ref-columns.ensures.value) at said.ensures.metadata in
    head_accepted (dictionary_message p.0 p.1.0) b (batch_of said.metadata) said.body_length metadata (rw c.from_ref-columns.ensures.value at said.ensures.form) c.in_ok-write_dictionary.ensures.form.0 (rw id at c.in_ok-write_dictionary.ensures.form.1)

pub returns-clause-bytes : goal.returns-clause-bytes
unfolding dictionary_bytes
returns-clause-bytes c =
    let p : DictionaryBatchTree = (c.args.delta, (c.args.id, layout_of c.args.values.now)) in
    let said = c.in_ok-metadata in
    let id : to_z w64 (of_z w64 p.1.0) ≡ p.1.0 = to_z-of_z w64 p.1.0 c.ranges.id in
    let metadata : IsMetadata (one_column p.1.1) (batch_of said.metadata) said.body_length = rw (c.len.ensures, c.from_ref-columns.ensures.value) at said.ensures.metadata in
    head_written (dictionary_message p.0 p.1.0) (one_column p.1.1) (batch_of said.metadata) said.body_length metadata c.args.out.now.items c.write_dictionary.new.out.items c.write_columns.new.out.items
    (rw id at c.in_ok-write_dictionary.ensures.bytes) (rw c.from_ref-columns.ensures.value at c.in_ok-write_columns.ensures.ok)
