use Rattle.std.proofs.Common.{◌<◌, ◌^◌, ◌++◌, ◌∷◌, [], ◌∙◌, ap, sym, w32, arith}
use Rattle.std.specs.Prelude.{pos}
use Rattle.std.proofs.lemmas.Int.{to_z_pos}
use Rattle.std.proofs.lemmas.List.FromFn.{map-range_with_len_more}
use Rattle.nest_array.proofs.union.nulls.counted.Goals as goal

pub loop-i-preserved : goal.loop-i-preserved
loop-i-preserved c =
    let p : c.loop-i.i < 2 ^ 31 = omega arith in
    c.in_ok-push.ensures.items
    ∙ ap (λ z. c.loop-i.numbers.items ++ z ∷ []) (to_z_pos w32 c.loop-i.i p)
    ∙ ap (λ xs. xs ++ pos c.loop-i.i ∷ []) c.loop-i.invariant
    ∙ sym (map-range_with_len_more (λ i. pos i) 0 c.loop-i.i c.loop-i.i (omega arith))
