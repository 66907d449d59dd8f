use Rattle.std.proofs.Common.{◌++◌, ◌∷◌, [], ap, sym, ◌∙◌, get_or}
use Rattle.nest_take.proofs.Picks.{IsDense, Picks, pick-yes, pick-no}
use Rattle.nest_take.proofs.union.picks_of.Goals.{then-picked-field+in_ok-push, else-picked-field}
use Rattle.nest_take.proofs.union.picks_of.Goals as goal

pub loop-place-preserved : goal.loop-place-preserved
loop-place-preserved c =
    let a = c.args.array.now in
    let is = c.args.indices.now in
    let k = c.loop-place.place-index in
    let d : IsDense a = record { kind = c.known.ensures.kind; dense = c.requires.dense } in
    let q : Picks a (get_or is k 0) c.index-picked.result.0 c.index-picked.result.1 = record { field = c.index-picked.ensures.field; place = c.index-picked.ensures.place } in
    elim c.if-picked-field.branch [ then-picked-field+in_ok-push w ↦ ap (λ v. v.items) w.picks-is ∙ w.in_ok-push.ensures.items ∙ ap (λ z. z ++ c.index-picked.result.1 ∷ []) c.loop-place.invariant ∙ sym (pick-yes a c.args.field _ _ is k d c.loop-place-test.true q w.if-picked-field.true) | else-picked-field w ↦ ap (λ v. v.items) w.picks-is ∙ c.loop-place.invariant ∙ sym (pick-no a c.args.field _ _ is k d c.loop-place-test.true q w.if-picked-field.false) ]
