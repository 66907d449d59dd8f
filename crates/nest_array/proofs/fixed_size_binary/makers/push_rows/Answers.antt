use Rattle.std.proofs.Common.{take, subst, sym}
use Rattle.nest_array.specs.FixedBytes.{IsMadeOf}
use Rattle.nest_array.specs.MadeBytes.{made-push, taken-more}
use Rattle.nest_array.proofs.fixed_size_binary.makers.push_rows.Goals as goal

pub loop-item-preserved : goal.loop-item-preserved
loop-item-preserved g c =
    let xs = c.args.items.now in
    let i = c.loop-item.item-index in
    let x = c.item-item.result in
    let t = taken-more xs i x c.loop-item-test.true c.item-item.is in
    subst (λ ys. IsMadeOf g.row.N ys c.push_row.new.made) (sym t)
    (made-push g.row.N (take i xs) x c.loop-item.made c.push_row.new.made c.loop-item.invariant c.in_ok-push_row.ensures.slots c.in_ok-push_row.ensures.masked c.push_row.ensures.same_type c.push_row.ensures.sized)
