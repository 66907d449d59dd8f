use Rattle.std.proofs.Common.{◌≡◌, ℕ, Option, Some, refl, rules, subst, ◌∙◌, arith}
use Rattle.std.specs.Option.{option_map}
use Rattle.ipc.specs.Streams.{record_batch_of}
use Rattle.ipc.specs.declared.batch.Batch.{Batch}
use Rattle.cli_rows.specs.declared.error.CliError.TheVariants.{Input}
use Rattle.cli_read.specs.CountSteps.{FailsIn}
use Rattle.cli_read.specs.Readers.{reader_schema, remaining_batches}
use Rattle.cli_read.specs.Remaining.{ReturnsNext, with_schema}
use Rattle.cli_read.proofs.Counted.{count-begun, count-fails, count-more, uncounted}
use Rattle.cli_read.proofs.Readers.{fresh}
use Rattle.cli_read.proofs.counting.count_batches.Goals as goal

pub loop-k-init : goal.loop-k-init
loop-k-init g c =
    let left = remaining_batches g.R.Read.remaining g.R.Seek.stream_position g.R.Seek.stream_bytes in
    record {
      schema = refl;
      small = omega arith;
      on = count-begun (left c.args.reader) (fresh g.R.Read.remaining g.R.Seek.stream_position g.R.Seek.stream_bytes c.args.reader);
    }

pub returns-in-Err-clause-error : goal.returns-in-Err-clause-error
returns-in-Err-clause-error g c =
    let left = remaining_batches g.R.Read.remaining g.R.Seek.stream_position g.R.Seek.stream_bytes in
    let l = c.loop-k in
    count-fails c.in-Err.error (reader_schema c.args.reader) l.k (left c.args.reader) (left l.reader) l.rows l.invariant.on c.in-Err.ensures.error

pub loop-k-preserved : goal.loop-k-preserved
loop-k-preserved g c =
    let left = remaining_batches g.R.Read.remaining g.R.Seek.stream_position g.R.Seek.stream_bytes in
    let l = c.loop-k in
    let b = record_batch_of c.in-Ok-Some.batch in
    let next = c.next_batch.new.self in
    record {
      schema = c.in-Ok-Some.ensures.schema ∙ l.invariant.schema;
      small = search rules;
      on = count-more l.k (left c.args.reader) (left l.reader) (left next) l.rows _ b l.invariant.on
          (subst (λ (n : Option Batch). ReturnsNext (left l.reader) (left next) (option_map record_batch_of n)) c.in-Ok-Some.field-0-is c.in-Ok-Some.ensures.next) refl;
    }

pub returns-clause-error : goal.returns-clause-error
returns-clause-error g c =
    let left = remaining_batches g.R.Read.remaining g.R.Seek.stream_position g.R.Seek.stream_bytes in
    let s = reader_schema c.args.reader in
    let t = left c.args.reader in
    let l = c.loop-k in
    let last : l.k ≡ 18446744073709551615 = omega (arith, c.loop-k-test.false, l.auto.k-end) in
    subst (λ (k : ℕ). FailsIn (option_map (with_schema s) t) (record { batch = Some k; error = Input })) last (uncounted s l.k t (left l.reader) l.rows l.invariant.on)
