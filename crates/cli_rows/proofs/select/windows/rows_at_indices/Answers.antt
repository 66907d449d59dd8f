use Rattle.std.proofs.Common.{◌≡◌, ◌<◌, get_or, length, map, sym, ap, ◌∙◌, arith}
use Rattle.std.specs.List.{flat_map}
use Rattle.nest_memory.specs.Sublist.{sublist}
use Rattle.nest_model.specs.Meaning.{len}
use Rattle.nest_model.specs.Runs.{length-cut}
use Rattle.nest_array.specs.Seen.{layout_of}
use Rattle.cli_rows.specs.Rows.{rows_in, rows_of}
use Rattle.cli_rows.specs.RowLaws.{flat-more, rows-length, window-rows}
use Rattle.cli_rows.proofs.Offsets.{all-at, located-len, located-row, none-at, place-more, same-default, total-rows}
use Rattle.cli_rows.proofs.select.windows.rows_at_indices.Goals as goal

pub returns-in_default : goal.returns-in_default
returns-in_default c =
    let t = total-rows c.args.arrays.now in
    let place = get_or c.args.wanted.now c.loop-index.index-index 0 in
    let is = same-default c.args.wanted.now c.loop-index.index-index 0 place c.loop-index-test.true in
    none-at (flat_map rows_of (map layout_of c.args.arrays.now)) c.args.wanted.now c.loop-index.index-index place c.loop-index-test.true is (omega (arith, t, c.in_default.ensures))

pub loop-index-preserved : goal.loop-index-preserved
loop-index-preserved c =
    let arrays = c.args.arrays.now in
    let all = flat_map rows_of (map layout_of arrays) in
    let x = c.index-arrays-k.result in
    let k = c.in-Some.k in
    let i = c.in-Some.i in
    let place = get_or c.args.wanted.now c.loop-index.index-index 0 in
    let is = same-default c.args.wanted.now c.loop-index.index-index 0 place c.loop-index-test.true in
    let at = c.in-Some.ensures in
    let m = located-len arrays k x at.array c.index-arrays-k.is in
    let w = at.within in
    let within : i < len (layout_of x) = omega (arith, m, w) in
    let row : sublist (rows_of (layout_of x)) i 1 ≡ sublist all place 1 = located-row arrays k i place x at.array c.index-arrays-k.is within at.place_is in
    let l = rows-length (layout_of x) in
    let one : length (sublist all place 1) ≡ 1 = ap length (sym row) ∙ length-cut (rows_of (layout_of x)) i 1 (omega (arith, l, within)) in (
      flat-more rows_in (λ p. sublist all p 1) c.args.wanted.now c.loop-index.index-index place c.loop-index.windows.items c.push.new.self.items c.one_row.result c.loop-index-test.true is c.in_ok-push.ensures.items
          (ap rows_in c.one_row.ensures ∙ window-rows (layout_of x) i 1 ∙ row) c.loop-index.invariant.0,
      place-more all c.args.wanted.now c.loop-index.index-index place c.loop-index-test.true is one c.loop-index.invariant.1,
    )

pub returns : goal.returns
returns c =
    all-at (flat_map rows_of (map layout_of c.args.arrays.now)) (flat_map rows_in c.loop-index.windows.items) c.args.wanted.now c.loop-index.index-index c.loop-index-test.false c.loop-index.invariant.0 c.loop-index.invariant.1
