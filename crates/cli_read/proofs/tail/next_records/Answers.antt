use Rattle.std.proofs.Common.{Option, subst, ◌∙◌}
use Rattle.std.specs.Option.{option_map}
use Rattle.nest_model.specs.Fits.{Fits}
use Rattle.ipc_schema.specs.Schemas.{SchemaModel}
use Rattle.ipc.specs.Streams.{record_batch_of}
use Rattle.ipc.specs.declared.batch.Batch.{Batch}
use Rattle.cli_rows.specs.RowErrors.{IsRowError}
use Rattle.cli_read.specs.Readers.{reader_schema, remaining_batches}
use Rattle.cli_read.specs.Remaining.{ReturnsNext}
use Rattle.cli_read.specs.TailSteps.{batch_records_of}
use Rattle.cli_read.proofs.StreamTails.{records-unfit}
use Rattle.cli_read.proofs.tail.next_records.Goals as goal

pub returns-in-Err-batch_records-clause-error : goal.returns-in-Err-batch_records-clause-error
returns-in-Err-batch_records-clause-error g c =
    let left = remaining_batches g.R.Read.remaining g.R.Seek.stream_position g.R.Seek.stream_bytes in
    let b = record_batch_of c.in-Ok-Some.batch in
    let error = c.in-Err-batch_records.error in
    records-unfit error (reader_schema c.args.reader.now) (left c.args.reader.now) (left c.next_batch.new.self) b
    (subst (λ (n : Option Batch). ReturnsNext (left c.args.reader.now) (left c.next_batch.new.self) (option_map record_batch_of n)) c.in-Ok-Some.field-0-is c.in-Ok-Some.ensures.next)
    (subst (λ (z : SchemaModel). IsRowError error (Fits (batch_records_of z b))) (c.schema.ensures ∙ c.in-Ok-Some.ensures.schema) c.in-Err-batch_records.ensures.error)
