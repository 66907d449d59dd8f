use Rattle.std.proofs.Common.{Option, refl, subst, ◌∙◌}
use Rattle.std.specs.Option.{option_map}
use Rattle.ipc.specs.Streams.{record_batch_of}
use Rattle.ipc.specs.declared.batch.Batch.{Batch}
use Rattle.cli_read.specs.Readers.{reader_schema, remaining_batches}
use Rattle.cli_read.specs.Remaining.{ReturnsNext}
use Rattle.cli_read.proofs.FirstErrors.{read-begun, read-count, read-fails, read-more, read-whole}
use Rattle.cli_read.proofs.Readers.{fresh}
use Rattle.cli_read.proofs.failures.batch_error.Goals as goal

pub loop-k-init : goal.loop-k-init
loop-k-init g c =
    let left = remaining_batches g.R.Read.remaining g.R.Seek.stream_position g.R.Seek.stream_bytes in
    record {
      schema = refl;
      on = read-begun (left c.args.reader) (fresh g.R.Read.remaining g.R.Seek.stream_position g.R.Seek.stream_bytes c.args.reader);
    }

pub loop-k-preserved : goal.loop-k-preserved
loop-k-preserved g c =
    let left = remaining_batches g.R.Read.remaining g.R.Seek.stream_position g.R.Seek.stream_bytes in
    let l = c.loop-k in
    let b = record_batch_of c.in-Ok-Some.batch in
    let next = c.next_batch.new.self in
    record {
      schema = c.in-Ok-Some.ensures.schema ∙ l.invariant.schema;
      on = read-more l.k (left c.args.reader) (left l.reader) (left next) b l.invariant.on
          (subst (λ (n : Option Batch). ReturnsNext (left l.reader) (left next) (option_map record_batch_of n)) c.in-Ok-Some.field-0-is c.in-Ok-Some.ensures.next);
    }

pub returns-in-Err-clause-error : goal.returns-in-Err-clause-error
returns-in-Err-clause-error g c =
    let left = remaining_batches g.R.Read.remaining g.R.Seek.stream_position g.R.Seek.stream_bytes in
    let l = c.loop-k in
    read-fails c.in-Err.error (reader_schema c.args.reader) l.k (left c.args.reader) (left l.reader) l.invariant.on c.in-Err.ensures.error
