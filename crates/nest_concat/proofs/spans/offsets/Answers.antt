use Rattle.std.specs.Prelude.{pos, map}
use Rattle.std.proofs.Common.{◌≡◌, ℕ, ◌∙◌, ap, take, sum, arith}
use Rattle.std.specs.List.{flat_map}
use Rattle.std.proofs.lemmas.List.Sums.{sum_by-append}
use Rattle.nest_concat.specs.Windows.{window_item_count, extents_in}
use Rattle.nest_concat.proofs.Pieces.{ends}
use Rattle.nest_concat.proofs.Grown.{ends-more, ends-are-offsets, ends-are-numbers, flat-all, flat-more, if-ok, one-error, sum-more, sum-within}
use Rattle.nest_concat.proofs.spans.offsets.Goals as goal

pub push_window-requires-clause-room : goal.push_window-requires-clause-room
push_window-requires-clause-room g c =
    omega (arith, c.loop-window.invariant.last, sum-within window_item_count c.args.windows.now c.loop-window.window-index c.window-item.result c.loop-window-test.true c.window-item.is, c.requires.room)

pub loop-window-preserved : goal.loop-window-preserved
loop-window-preserved g c =
    let ws = c.args.windows.now in
    let k = c.loop-window.window-index in
    let w = c.window-item.result in
    let i = c.loop-window.invariant in
    record {
      gathered = ends-more g.O.Offset.value ws c.loop-window.ends.items c.push_window.new.ends.items k c.loop-window.base w c.loop-window-test.true c.window-item.is i.gathered i.summed c.in_ok-base.ensures.ok;
      last = omega (arith, c.in_ok-base.ensures.end, i.last, sum-more window_item_count ws k w c.loop-window-test.true c.window-item.is);
      summed = omega (arith, c.in_ok-base.ensures.rows, i.summed, ap sum (flat-more extents_in ws k w c.loop-window-test.true c.window-item.is), sum_by-append (λ (z : ℕ). z) (flat_map extents_in (take k ws)) (extents_in w));
    }

pub returns-clause-ok : goal.returns-clause-ok
returns-clause-ok g c =
    let ws = c.args.windows.now in
    let all : map g.O.Offset.value c.loop-window.ends.items ≡ map (λ n. pos n) (ends (flat_map extents_in ws)) = c.loop-window.invariant.gathered ∙ ap (λ ls. map (λ n. pos n) (ends ls)) (flat-all extents_in ws c.loop-window.window-index (omega (arith, c.loop-window-test.false))) in
    if-ok c.try_new.result _ _ (λ b e. e ∙ ends-are-numbers g.O.Offset.value c.loop-window.ends.items (ends (flat_map extents_in ws)) all) c.try_new.ensures.ok

pub returns-clause-err : goal.returns-clause-err
returns-clause-err g c =
    let ws = c.args.windows.now in
    let offsets = ends-are-offsets g.O.Offset.value c.loop-window.ends.items (flat_map extents_in (take c.loop-window.window-index ws)) c.loop-window.invariant.gathered in
    one-error c.try_new.result _ _ (λ e. let wrong = c.try_new.ensures.wrong.0 e in cc) c.try_new.ensures.errors
