use Rattle.std.proofs.Common.{◌≡◌, ◌+◌, Option, ap, arith, inl, subst, sym}
use Rattle.std.specs.Option.{option_map}
use Rattle.nest_array.specs.Seen.{layout_of}
use Rattle.nest_array.specs.declared.any.AnyArray.{AnyArray}
use Rattle.cli_rows.specs.declared.error.BatchError.{BatchError}
use Rattle.cli_read.specs.RowBuffers.{ReturnsRows, IsRowBufferError, buffered_rows}
use Rattle.cli_read.specs.Readers.{remaining_batches, reader_schema}
use Rattle.cli_read.proofs.Buffers.{no-rows, some-rows}
use Rattle.cli_read.proofs.BufferSteps.{came-as, ended, not-over, stopped, uncounted}
use Rattle.cli_read.proofs.comparison.buffer.RowBuffer.fill.Goals as goal

pub returns-then-self-len-clause-still : goal.returns-then-self-len-clause-still
returns-then-self-len-clause-still g c = λ e. inl (some-rows c.args.self.now.from (layout_of c.args.self.now.rows) c.len.result c.len.ensures c.if-self-len.true)

pub returns-in_default-clause-error : goal.returns-in_default-clause-error
returns-in_default-clause-error g c = λ t done p.
    let old = c.args.self.now in
    let s = reader_schema old.reader in
    let u = remaining_batches g.R.Read.remaining g.R.Seek.stream_position g.R.Seek.stream_bytes old.reader in
    let none = no-rows old.from (layout_of old.rows) c.len.result c.len.ensures c.if-self-len.false in
    subst (λ (stop : BatchError). IsRowBufferError t s done stop) (sym c.error.ensures) (uncounted t s done old.read (buffered_rows old) u (not-over t s done old.is_over old.read (buffered_rows old) u c.if-self.false p) none)

pub returns-in-Err-clause-error : goal.returns-in-Err-clause-error
returns-in-Err-clause-error g c = λ t done p.
    let old = c.args.self.now in
    let s = reader_schema old.reader in
    let u = remaining_batches g.R.Read.remaining g.R.Seek.stream_position g.R.Seek.stream_bytes old.reader in
    let none = no-rows old.from (layout_of old.rows) c.len.result c.len.ensures c.if-self-len.false in
    subst (λ (stop : BatchError). IsRowBufferError t s done stop) (sym c.error-in-Err.ensures)
    (stopped t s done old.read (buffered_rows old) u c.in-Err.error (not-over t s done old.is_over old.read (buffered_rows old) u c.if-self.false p) none c.in-Err.ensures.error)

pub returns-in-Ok-None-clause-on : goal.returns-in-Ok-None-clause-on
returns-in-Ok-None-clause-on g c = λ t done p.
    let old = c.args.self.now in
    let s = reader_schema old.reader in
    let left = remaining_batches g.R.Read.remaining g.R.Seek.stream_position g.R.Seek.stream_bytes in
    let gave = subst (λ (r : Option AnyArray). ReturnsRows s (left old.reader) (left c.next_rows.new.reader) (option_map layout_of r)) c.in-Ok-None.field-0-is c.in-Ok-None.ensures.rows in
    ended t s done old.read (buffered_rows old) (left old.reader) (left c.next_rows.new.reader) (not-over t s done old.is_over old.read (buffered_rows old) (left old.reader) c.if-self.false p) gave

pub returns-in-Ok-Some-clause-on : goal.returns-in-Ok-Some-clause-on
returns-in-Ok-Some-clause-on g c = λ t done p.
    let old = c.args.self.now in
    let s = reader_schema old.reader in
    let left = remaining_batches g.R.Read.remaining g.R.Seek.stream_position g.R.Seek.stream_bytes in
    let none = no-rows old.from (layout_of old.rows) c.len.result c.len.ensures c.if-self-len.false in
    let gave = subst (λ (r : Option AnyArray). ReturnsRows s (left old.reader) (left c.next_rows.new.reader) (option_map layout_of r)) c.in-Ok-Some.field-0-is c.in-Ok-Some.ensures.rows in
    let e = c.in-Some.ensures in
    let next : c.in-Some.read ≡ old.read + 1 = grind arith in
    came-as t s done old.is_over old.read c.in-Some.read (buffered_rows old) (left old.reader) (left c.next_rows.new.reader) (layout_of c.in-Ok-Some.rows) (layout_of c.replace.new.dest) c.if-self.false next (ap layout_of c.replace.ensures.after) p none gave
