use Rattle.std.proofs.Common.{◌++◌, ap, sym, ◌∙◌, ◌∷◌, [], ◌+◌, append_assoc}
use Rattle.std.specs.List.{range_with_len}
use Rattle.nest_take.proofs.Pieces.{range_more}
use Rattle.nest_take.proofs.indices.push_range.Goals as goal

pub loop-i-preserved : goal.loop-i-preserved
loop-i-preserved c =
    let i = c.loop-i.i in
    let s = c.args.start in
    c.in_ok-push.ensures.items
    ∙ ap (λ z. z ++ (s + i) ∷ []) c.loop-i.invariant
    ∙ append_assoc c.args.numbers.now.items (range_with_len s i) ((s + i) ∷ [])
    ∙ ap (λ z. c.args.numbers.now.items ++ z) (sym (range_more s i))
