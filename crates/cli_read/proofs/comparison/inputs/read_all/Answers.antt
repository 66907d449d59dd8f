use Rattle.std.proofs.Common.{rules, option_map, ◌++◌, ◌+◌, take, ap, refl, subst, sym, ◌∙◌, arith}
use Rattle.nest_array.specs.Seen.{layout_of}
use Rattle.cli_read.specs.Remaining.{with_schema}
use Rattle.cli_read.specs.RowBuffers.{IsInBounds, buffered_rows}
use Rattle.cli_read.specs.Readers.{remaining_batches, reader_schema}
use Rattle.cli_read.proofs.Buffers.{passed-room}
use Rattle.cli_read.proofs.EqualFiles.{device-failed, none-left}
use Rattle.cli_read.proofs.BufferSteps.{tell-none, passed-so, stop-first, stops-it, under-it}
use Rattle.cli_read.proofs.comparison.inputs.read_all.Goals as goal

pub returns-in-Err : goal.returns-in-Err
returns-in-Err g c = λ t s h begun.
    let i = c.batches.invariant in
    let v = remaining_batches g.R.Read.remaining g.R.Seek.stream_position g.R.Seek.stream_bytes c.batches.side.reader in
    let p = c.batches.side in
    let (done, at) = i.on t s h begun in
    stop-first t t s done p.is_over p.read (buffered_rows p) v c.in-Err.error (stops-it t (reader_schema p.reader) s done p.is_over p.read (buffered_rows p) v c.in-Err.error (i.schema ∙ h) c.in-Err.ensures.error at) at

pub returns-then-n-eq0 : goal.returns-then-n-eq0
returns-then-n-eq0 g c = λ t s h begun.
    let i = c.batches.invariant in
    let of_left = remaining_batches g.R.Read.remaining g.R.Seek.stream_position g.R.Seek.stream_bytes in
    let old = c.batches.side in
    let p = c.fill.new.self in
    let (done, at) = i.on t s h begun in
    let x = under-it t (reader_schema old.reader) s done old.is_over p.is_over old.read p.read (buffered_rows old) (buffered_rows p) (of_left old.reader) (of_left p.reader) (i.schema ∙ h) c.in-Ok.ensures.on at in
    let none = none-left (buffered_rows p) (sym c.len-n.ensures ∙ c.if-n-eq0.true) in
    let settled = c.in-Ok.ensures.still (search rules) in
    tell-none s done p.is_over p.is_over p.read p.read (buffered_rows p) (buffered_rows p) t t (of_left p.reader) (of_left p.reader) x x none none settled settled

pub returns : goal.returns
returns g c = λ t s h begun. device-failed (option_map (with_schema s) t) (option_map (with_schema s) t) _

pub batches-preserved : goal.batches-preserved
batches-preserved g c =
    let i = c.batches.invariant in
    let of_left = remaining_batches g.R.Read.remaining g.R.Seek.stream_position g.R.Seek.stream_bytes in
    let old = c.batches.side in
    let p = c.fill.new.self in
    let n = c.len-n.result in
    record {
      room = subst (λ z. IsInBounds z) (sym c.advance.ensures) (passed-room (layout_of p.rows) p.from n c.in-Ok.ensures.room (omega (arith, c.len-n.ensures)));
      schema = ap (λ z. reader_schema z.reader) c.advance.ensures ∙ c.in-Ok.ensures.schema ∙ i.schema;
      on = λ t s h begun.
          let (done, at) = i.on t s h begun in
          let front = take n (buffered_rows p) in
          let x = under-it t (reader_schema old.reader) s done old.is_over p.is_over old.read p.read (buffered_rows old) (buffered_rows p) (of_left old.reader) (of_left p.reader) (i.schema ∙ h) c.in-Ok.ensures.on at in (
            done ++ front,
            passed-so t s done front n (λ z. of_left z.reader) p c.advance.new.self refl c.advance.ensures refl x,
          );
    }
