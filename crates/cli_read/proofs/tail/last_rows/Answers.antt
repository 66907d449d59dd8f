use Rattle.std.proofs.Common.{◌∙◌, ◌++◌, ◌-◌, ◌∷◌, [], length, ap, sym, arith, length-append}
use Rattle.std.specs.Option.{option_to_list}
use Rattle.nest_array.specs.Seen.{layout_of}
use Rattle.cli_rows.specs.RowLaws.{rows-length}
use Rattle.cli_rows.specs.Rows.{rows_of, rows_of_arrays}
use Rattle.cli_read.specs.TailSteps.{rows_reversed}
use Rattle.cli_read.proofs.LastRows.{found-all, found-end, found-more, no-arrays, rows-one}
use Rattle.cli_read.proofs.tail.last_rows.Goals as goal
use Rattle.cli_read.proofs.tail.last_rows.Goals.{in-Some+in_ok-missing, in_default, else-loop-turn-test, then-loop-turn-test+then-missing-eq0}

pub loop-turn-preserved : goal.loop-turn-preserved
loop-turn-preserved c = elim c.match-pop.branch [
  | in-Some+in_ok-missing w ↦
      let l = c.loop-turn in
      let left = c.pop.new.self.items in
      let a = w.in-Some.array in
      let split = c.pop.ensures.items ∙ ap (λ r. left ++ option_to_list r) w.in-Some.is in
      let long = ap length split ∙ length-append left (a ∷ []) in
      record {
        left = omega (arith, long, l.invariant.left);
        on = rw (w.found-is, w.missing-is) (found-more c.args.count (rows_of_arrays c.args.arrays.items) (rows_of_arrays l.arrays.items) (rows_of_arrays left) (rows_of (layout_of a)) l.missing _ (rows_reversed l.found.items) _ l.invariant.on
            (ap rows_of_arrays split ∙ rows-one left a) (w.in_ok-missing.ensures.missing ∙ ap (λ k. l.missing - k) (sym (rows-length (layout_of a)))) w.in_ok-missing.ensures.rows);
      }
  | in_default w ↦ absurd (omega (arith, (rw w.in_default.is at c.pop.ensures.cases).0, c.loop-turn.invariant.left, c.loop-turn-test.true, c.len-turn-end.ensures, c.loop-turn.auto._turn-end))
]

pub returns-clause-rows : goal.returns-clause-rows
returns-clause-rows c =
    let l = c.loop-turn in
    let all = rows_of_arrays c.args.arrays.items in
    let left = rows_of_arrays l.arrays.items in
    let found = rows_reversed l.found.items in
    ap rows_of_arrays c.reverse.ensures.items ∙ elim c.loop-turn-test.branch [
      | else-loop-turn-test w ↦ found-end c.args.count all left l.missing found l.invariant.on (no-arrays l.arrays.items (omega (arith, l.invariant.left, w.loop-turn-test.false, c.len-turn-end.ensures, l.auto._turn-end)))
      | then-loop-turn-test+then-missing-eq0 w ↦ found-all c.args.count all left l.missing found l.invariant.on w.if-missing-eq0.true
    ]
