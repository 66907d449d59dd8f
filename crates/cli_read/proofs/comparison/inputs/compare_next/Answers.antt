use Rattle.std.proofs.Common.{◌≡◌, ◌++◌, ◌+◌, ◌≤◌, ◌^◌, length, arith, ap, refl, subst, sym, ◌∙◌, take, length-append}
use Rattle.std.proofs.lemmas.List.{length-take}
use Rattle.nest_array.specs.Seen.{layout_of}
use Rattle.cli_read.specs.RowBuffers.{IsInBounds, buffered_rows}
use Rattle.cli_read.specs.Readers.{remaining_batches, reader_schema}
use Rattle.cli_read.proofs.Buffers.{passed-room}
use Rattle.cli_read.proofs.BufferSteps.{passed-so, stop-first, stop-second, stops-it, tell, tell-many, under-it}
use Rattle.cli_read.proofs.comparison.inputs.compare_next.Goals as goal

pub returns-in-Err-clause-step : goal.returns-in-Err-clause-step
returns-in-Err-clause-step g c = λ t u s hl hr b.
    let v = remaining_batches g.R.Read.remaining g.R.Seek.stream_position g.R.Seek.stream_bytes c.args.left.now.reader in
    let w = remaining_batches g.S.Read.remaining g.S.Seek.stream_position g.S.Seek.stream_bytes c.args.right.now.reader in
    let p = c.args.left.now in
    let q = c.args.right.now in
    stop-first t u s b.0 q.is_over q.read (buffered_rows q) w c.in-Err.error (stops-it t (reader_schema p.reader) s b.0 p.is_over p.read (buffered_rows p) v c.in-Err.error hl c.in-Err.ensures.error b.2) b.3

pub returns-in-Err-fill-clause-step : goal.returns-in-Err-fill-clause-step
returns-in-Err-fill-clause-step g c = λ t u s hl hr b.
    let of_left = remaining_batches g.R.Read.remaining g.R.Seek.stream_position g.R.Seek.stream_bytes in
    let w = remaining_batches g.S.Read.remaining g.S.Seek.stream_position g.S.Seek.stream_bytes c.args.right.now.reader in
    let old = c.args.left.now in
    let p = c.fill.new.self in
    let q = c.args.right.now in
    let x = under-it t (reader_schema old.reader) s b.0 old.is_over p.is_over old.read p.read (buffered_rows old) (buffered_rows p) (of_left old.reader) (of_left p.reader) hl c.in-Ok-false.ensures.on b.2 in
    stop-second t u s b.0 p.is_over p.read (buffered_rows p) (of_left p.reader) c.in-Err-fill.error x (stops-it u (reader_schema q.reader) s b.0 q.is_over q.read (buffered_rows q) w c.in-Err-fill.error hr c.in-Err-fill.ensures.error b.3)

pub returns-in_default-clause-step : goal.returns-in_default-clause-step
returns-in_default-clause-step g c = λ t u s hl hr b.
    let of_left = remaining_batches g.R.Read.remaining g.R.Seek.stream_position g.R.Seek.stream_bytes in
    let of_right = remaining_batches g.S.Read.remaining g.S.Seek.stream_position g.S.Seek.stream_bytes in
    let old = c.args.left.now in
    let other = c.args.right.now in
    let p = c.fill.new.self in
    let q = c.fill-2.new.self in
    let n = c.in-Equal.n in
    let x = under-it t (reader_schema old.reader) s b.0 old.is_over p.is_over old.read p.read (buffered_rows old) (buffered_rows p) (of_left old.reader) (of_left p.reader) hl c.in-Ok-false.ensures.on b.2 in
    let y = under-it u (reader_schema other.reader) s b.0 other.is_over q.is_over other.read q.read (buffered_rows other) (buffered_rows q) (of_right other.reader) (of_right q.reader) hr c.in-Ok-false-fill.ensures.on b.3 in
    let a = c.in_default.ensures in
    let past : 2 ^ 64 ≤ c.args.rows.now + n = grind arith in
    tell-many s b.0 p.is_over q.is_over p.read q.read (buffered_rows p) (buffered_rows q) t u (of_left p.reader) (of_right q.reader) n x y (subst (λ m. 2 ^ 64 ≤ m + n) (sym b.1) past) c.in-Equal.ensures.2 c.in-Equal.ensures.0 c.in-Equal.ensures.1

pub returns-in-Decided-clause-step : goal.returns-in-Decided-clause-step
returns-in-Decided-clause-step g c = λ t u s hl hr b.
    let of_left = remaining_batches g.R.Read.remaining g.R.Seek.stream_position g.R.Seek.stream_bytes in
    let of_right = remaining_batches g.S.Read.remaining g.S.Seek.stream_position g.S.Seek.stream_bytes in
    let old = c.args.left.now in
    let other = c.args.right.now in
    let p = c.fill.new.self in
    let q = c.fill-2.new.self in
    let x = under-it t (reader_schema old.reader) s b.0 old.is_over p.is_over old.read p.read (buffered_rows old) (buffered_rows p) (of_left old.reader) (of_left p.reader) hl c.in-Ok-false.ensures.on b.2 in
    let y = under-it u (reader_schema other.reader) s b.0 other.is_over q.is_over other.read q.read (buffered_rows other) (buffered_rows q) (of_right other.reader) (of_right q.reader) hr c.in-Ok-false-fill.ensures.on b.3 in
    tell s b.0 p.is_over q.is_over p.read q.read (buffered_rows p) (buffered_rows q) t u (of_left p.reader) (of_right q.reader) _ c.in-Decided.k c.args.rows.now c.difference_at.result b.1 c.in-Decided.ensures c.difference_at.ensures
    (c.in-Ok-false.ensures.still c.in-Ok-false.field-0-test) (c.in-Ok-false-fill.ensures.still c.in-Ok-false-fill.field-0-test) x y

pub returns-in-Some-clause-step : goal.returns-in-Some-clause-step
returns-in-Some-clause-step g c = λ t u s hl hr b.
    let of_left = remaining_batches g.R.Read.remaining g.R.Seek.stream_position g.R.Seek.stream_bytes in
    let of_right = remaining_batches g.S.Read.remaining g.S.Seek.stream_position g.S.Seek.stream_bytes in
    let old = c.args.left.now in
    let other = c.args.right.now in
    let p = c.fill.new.self in
    let q = c.fill-2.new.self in
    let n = c.in-Equal.n in
    let front = take n (buffered_rows p) in
    let x = under-it t (reader_schema old.reader) s b.0 old.is_over p.is_over old.read p.read (buffered_rows old) (buffered_rows p) (of_left old.reader) (of_left p.reader) hl c.in-Ok-false.ensures.on b.2 in
    let y = under-it u (reader_schema other.reader) s b.0 other.is_over q.is_over other.read q.read (buffered_rows other) (buffered_rows q) (of_right other.reader) (of_right q.reader) hr c.in-Ok-false-fill.ensures.on b.3 in
    let a = c.in-Some.ensures in
    let more : c.args.rows.now + n ≡ c.in-Some.more = grind arith in
    let l = length-append b.0 front in
    let m = length-take n (buffered_rows p) in
    let long : length (b.0 ++ front) ≡ c.args.rows.now + n = let e = b.1 in omega (arith, l, m, e, c.in-Equal.ensures.0) in (
      b.0 ++ front,
      long ∙ more,
      passed-so t s b.0 front n (λ z. of_left z.reader) p c.advance.new.self refl c.advance.ensures refl x,
      passed-so u s b.0 front n (λ z. of_right z.reader) q c.advance-in-Equal.new.self refl c.advance-in-Equal.ensures c.in-Equal.ensures.2 y,
    )

pub returns-in-Some-clause-left : goal.returns-in-Some-clause-left
returns-in-Some-clause-left g c =
    let p = c.fill.new.self in (
      subst (λ z. IsInBounds z) (sym c.advance.ensures) (passed-room (layout_of p.rows) p.from c.in-Equal.n c.in-Ok-false.ensures.room c.in-Equal.ensures.0),
      ap (λ z. reader_schema z.reader) c.advance.ensures ∙ c.in-Ok-false.ensures.schema,
    )

pub returns-in-Some-clause-right : goal.returns-in-Some-clause-right
returns-in-Some-clause-right g c =
    let q = c.fill-2.new.self in (
      subst (λ z. IsInBounds z) (sym c.advance-in-Equal.ensures) (passed-room (layout_of q.rows) q.from c.in-Equal.n c.in-Ok-false-fill.ensures.room c.in-Equal.ensures.1),
      ap (λ z. reader_schema z.reader) c.advance-in-Equal.ensures ∙ c.in-Ok-false-fill.ensures.schema,
    )
