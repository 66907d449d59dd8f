use Rattle.std.proofs.Common.{◌<◌, pos, refl, arith}
use Rattle.nest_model.proofs.constructor_examples.keys_in_order.Goals as goal

pub returns-clause-then_range : goal.returns-clause-then_range
returns-clause-then_range c =
    let a : 0 < 1 = omega arith in
    (refl, (refl, (refl, λ h. let k : 9 < 2 = h (0, a, refl) 0 (pos 0) a in absurd (omega arith))))
