use Rattle.std.proofs.Common.{map, ◌∙◌}
use Rattle.nest_memory.specs.TypeOf.{field_of, type_of}
use Rattle.cli_rows.specs.Records.{record_type}
use Rattle.cli_rows.proofs.RecordArrays.{record-parts, refused}
use Rattle.cli_rows.proofs.records.record_array.Goals as goal

pub returns-in-Ok-try_new-clause-made : goal.returns-in-Ok-try_new-clause-made
returns-in-Ok-try_new-clause-made c = c.in-Ok-try_new.ensures.1 ∙ record-parts (type_of c.in-Ok.row_type) (record_type (map field_of c.args.fields.now)) c.args.columns.items c.in-Ok.ensures.row

pub returns-in-Err-try_new-clause-error : goal.returns-in-Err-try_new-clause-error
returns-in-Err-try_new-clause-error c = refused (type_of c.in-Ok.row_type) (record_type (map field_of c.args.fields.now)) c.args.columns.items c.in-Err-try_new.field-0 c.in-Ok.ensures.row c.in-Err-try_new.ensures
