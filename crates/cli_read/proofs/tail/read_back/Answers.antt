use Rattle.std.proofs.Common.{◌≡◌, ◌∙◌, ◌+◌, ◌-◌, inl, inr, ℕ, List, length, subst, sym, arith, refl}
use Rattle.nest_array.specs.Seen.{layout_of}
use Rattle.nest_array.specs.declared.any.AnyArray.{AnyArray}
use Rattle.cli_rows.specs.Rows.{rows_of_arrays}
use Rattle.cli_read.specs.TailSteps.{AreLastFrom, AreRecordsAt, rows_reversed, slice_reader_of}
use Rattle.cli_read.proofs.FileTails.{back-begun, back-end, back-more, blocks-of, reader-there, unchanged-reader}
use Rattle.cli_read.proofs.tail.read_back.Goals as goal
use Rattle.cli_read.proofs.tail.read_back.Goals.{else-loop-turn-test, then-loop-turn-test+then-missing-eq0}

pub loop-turn-init : goal.loop-turn-init
loop-turn-init g c =
    let position = g.R.Seek.stream_position in
    let bytes = g.R.Seek.stream_bytes in
    let r = c.args.reader in
    record {
      blocks = refl;
      on = rw c.new-found.ensures.items (back-begun c.args.count (length r.blocks - 0) (slice_reader_of position bytes r) (blocks-of position bytes (length r.blocks - 0) r (omega arith)));
    }

pub loop-turn-preserved : goal.loop-turn-preserved
loop-turn-preserved g c =
    let position = g.R.Seek.stream_position in
    let bytes = g.R.Seek.stream_bytes in
    let l = c.loop-turn in
    let reader = slice_reader_of position bytes in
    let end = length c.args.reader.blocks in
    let a = layout_of c.in-Ok.array in
    let next = c.records_at.new.reader in
    let k = end - (l.turn + 1) in
    let here : c.len-batches.result - 1 - l.turn ≡ k = omega (arith, c.len-batches.ensures) in
    let before : end - l.turn ≡ k + 1 = omega (arith, c.len-batches.ensures, c.loop-turn-test.true, l.auto.turn-end) in
    record {
      blocks = c.in-Ok.ensures.still.1 ∙ l.invariant.blocks;
      on = back-more c.args.count k (end - l.turn) (reader c.args.reader) (reader l.reader) (reader next) l.missing c.in-Ok-push_last.left a (rows_reversed l.found.items) _ l.invariant.on before
          (subst (λ (i : ℕ). AreRecordsAt i (reader l.reader) a) here c.in-Ok.ensures.records) (unchanged-reader position bytes l.reader next c.in-Ok.ensures.still) (reader-there position bytes l.reader next c.in-Ok.ensures.still)
          c.in-Ok-push_last.ensures.rows c.in-Ok-push_last.ensures.missing;
    }

pub returns-clause-rows : goal.returns-clause-rows
returns-clause-rows g c =
    let reader = slice_reader_of g.R.Seek.stream_position g.R.Seek.stream_bytes in
    let l = c.loop-turn in
    let end = length c.args.reader.blocks in
    let n = c.args.count in
    subst (λ (v : List AnyArray). AreLastFrom n (reader c.args.reader) (rows_of_arrays v)) (sym c.reverse.ensures.items) (elim c.loop-turn-test.branch [
      | else-loop-turn-test w ↦ back-end n (end - l.turn) (reader c.args.reader) (reader l.reader) l.missing (rows_reversed l.found.items) l.invariant.on (inr (omega (arith, w.loop-turn-test.false, c.len-batches.ensures, l.auto.turn-end)))
      | then-loop-turn-test+then-missing-eq0 w ↦ back-end n (end - l.turn) (reader c.args.reader) (reader l.reader) l.missing (rows_reversed l.found.items) l.invariant.on (inl w.if-missing-eq0.true)
    ])
