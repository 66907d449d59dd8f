use Rattle.std.proofs.Common.{◌<◌, ◌≤◌, [], ◌∷◌, arith}
use Rattle.std.proofs.lemmas.Str.{IsCharBoundary-start}
use Rattle.nest_model.proofs.constructor_examples.texts_in_order.Goals as goal

pub returns-clause-then_text : goal.returns-clause-then_text
returns-clause-then_text c =
    let a : 1 ≤ 2 = omega arith in
    let b : 0 < 1 = omega arith in
    let d : 0 < 1 = omega arith in
    let e : 128 ≤ 169 = omega arith in
    (a, λ h. let f : 192 ≤ 169 = (IsCharBoundary-start (169 ∷ []) (h 0 b)).1 d e in absurd (omega arith))
