use Rattle.std.proofs.Common.{◌≡◌, ◌<◌, ◌∷◌, [], pos, subst, arith, map}
use Rattle.nest_model.specs.Checks.{most_picks}
use Rattle.nest_concat.specs.Examples.{dense}
use Rattle.nest_concat.specs.Joined.{whole}
use Rattle.nest_concat.specs.Windows.{count_slots, field_window}
use Rattle.nest_concat.proofs.examples.parts.Goals as goal

pub returns-clause-last : goal.returns-clause-last
returns-clause-last c = λ p.
    let z : p.0 ≡ 0 = omega (arith, p.1) in
    let q = subst (λ f. most_picks < count_slots (map (field_window f) (whole (dense (pos 0 ∷ pos 0 ∷ []) (pos 0 ∷ pos 2147483647 ∷ [])) ∷ []))) z p.2 in
    omega (arith, q)
