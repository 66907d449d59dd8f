use Rattle.std.proofs.Common.{Option, Some, refl, subst, ◌∙◌}
use Rattle.std.specs.Option.{option_map}
use Rattle.nest_array.specs.Seen.{layout_of}
use Rattle.nest_array.specs.declared.any.AnyArray.{AnyArray}
use Rattle.ipc_schema.specs.Schemas.{SchemaModel}
use Rattle.cli_rows.specs.Rows.{rows_of_arrays}
use Rattle.cli_read.specs.Readers.{reader_schema, remaining_batches}
use Rattle.cli_read.specs.TailSteps.{FailsRecords, ReturnsRecords}
use Rattle.cli_read.proofs.Readers.{fresh}
use Rattle.cli_read.proofs.StreamTails.{tail-begun, tail-fails, tail-more, tail-stops}
use Rattle.cli_read.proofs.tail.read_on.Goals as goal

pub loop-k-init : goal.loop-k-init
loop-k-init g c =
    let left = remaining_batches g.R.Read.remaining g.R.Seek.stream_position g.R.Seek.stream_bytes in
    let r = c.args.reader in
    record {
      schema = refl;
      on = rw c.new.ensures.items (tail-begun c.args.count (reader_schema r) (left r) (fresh g.R.Read.remaining g.R.Seek.stream_position g.R.Seek.stream_bytes r));
    }

pub returns-in-Err-clause-error : goal.returns-in-Err-clause-error
returns-in-Err-clause-error g c =
    let left = remaining_batches g.R.Read.remaining g.R.Seek.stream_position g.R.Seek.stream_bytes in
    let l = c.loop-k in
    tail-fails c.in-Err.error c.args.count (reader_schema c.args.reader) l.k (left c.args.reader) (left l.reader) (rows_of_arrays l.found.arrays.items) l.invariant.on
    (subst (λ (s : SchemaModel). FailsRecords s c.in-Err.error (left l.reader)) l.invariant.schema c.in-Err.ensures.error)

pub returns-in-Err-push_array-clause-error : goal.returns-in-Err-push_array-clause-error
returns-in-Err-push_array-clause-error g c =
    let left = remaining_batches g.R.Read.remaining g.R.Seek.stream_position g.R.Seek.stream_bytes in
    tail-stops (reader_schema c.args.reader) (left c.args.reader) (Some c.loop-k.k) c.in-Err-push_array.error c.in-Err-push_array.ensures.error

pub loop-k-preserved : goal.loop-k-preserved
loop-k-preserved g c =
    let left = remaining_batches g.R.Read.remaining g.R.Seek.stream_position g.R.Seek.stream_bytes in
    let l = c.loop-k in
    let s = reader_schema c.args.reader in
    let next = c.next_records.new.reader in
    let came = subst (λ (n : Option AnyArray). ReturnsRecords (reader_schema l.reader) (left l.reader) (left next) (option_map layout_of n)) c.in-Ok-Some.field-0-is c.in-Ok-Some.ensures.records in
    record {
      schema = c.in-Ok-Some.ensures.schema ∙ l.invariant.schema;
      on = tail-more c.args.count s l.k (left c.args.reader) (left l.reader) (left next) (rows_of_arrays l.found.arrays.items) (rows_of_arrays c.in-Ok.more.arrays.items) (layout_of c.in-Ok-Some.array) l.invariant.on
          (subst (λ (z : SchemaModel). ReturnsRecords z (left l.reader) (left next) (Some (layout_of c.in-Ok-Some.array))) l.invariant.schema came) c.in-Ok.ensures.rows;
    }
