use Rattle.std.proofs.Common.{◌<◌, ◌-◌, ◌^◌, pos, refl, arith}
use Rattle.nest_model.proofs.refusal_examples.keys_refused.Goals as goal

pub returns-clause-under_a_null : goal.returns-clause-under_a_null
returns-clause-under_a_null c =
    let a : 0 < 2 = omega arith in
    let b : 1 < 2 = omega arith in
    (refl, (refl, (refl, λ h. let k : 9 < 1 = h (0, a, refl) 1 (pos 0) b in absurd (omega arith))))

pub returns-clause-negative : goal.returns-clause-negative
returns-clause-negative c =
    let a : 0 < 1 = omega arith in
    (refl, (refl, (refl, λ h. h (0, a, refl) 0 (pos 0) a)))

pub returns-clause-largest : goal.returns-clause-largest
returns-clause-largest c =
    let a : 0 < 1 = omega arith in
    (refl, (refl, (refl, λ h. let k : 2 ^ 64 - 1 < 1 = h (0, a, refl) 0 (pos 0) a in absurd (omega arith))))
