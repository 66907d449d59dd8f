use Rattle.std.proofs.Common.{List, ap, map, subst, ◌∙◌}
use Rattle.std.specs.List.{AllByRecursion}
use Rattle.nest_memory.specs.TypeOf.{field_of}
use Rattle.nest_model.specs.Fits.{Fits}
use Rattle.nest_model.specs.Layout.{Layout}
use Rattle.ipc.specs.Streams.{RecordBatchTree, record_batch_of}
use Rattle.cli_rows.specs.Records.{record_type, records}
use Rattle.cli_rows.specs.RowErrors.{IsRowError}
use Rattle.cli_rows.proofs.RecordArrays.{each-columns}
use Rattle.cli_rows.proofs.records.record_arrays.Goals as goal

pub returns-in-Ok-clause-made : goal.returns-in-Ok-clause-made
returns-in-Ok-clause-made c =
    c.in-Ok.ensures.made ∙ ap (map (records (record_type (map field_of c.as_slice-fields.result.now)))) (each-columns c.args.batches.items)
    ∙ ap (λ fs. map (records (record_type (map field_of fs))) (map (λ (b : RecordBatchTree). b.columns) (map record_batch_of c.args.batches.items))) c.as_slice-fields.ensures.value

pub returns-in-Err-clause-error : goal.returns-in-Err-clause-error
returns-in-Err-clause-error c =
    subst (λ fs. IsRowError c.in-Err.error (AllByRecursion Fits (map (records (record_type (map field_of fs))) (map (λ (b : RecordBatchTree). b.columns) (map record_batch_of c.args.batches.items))))) c.as_slice-fields.ensures.value
    (subst (λ (ls : List (List Layout)). IsRowError c.in-Err.error (AllByRecursion Fits (map (records (record_type (map field_of c.as_slice-fields.result.now))) ls))) (each-columns c.args.batches.items) c.in-Err.ensures.error)
