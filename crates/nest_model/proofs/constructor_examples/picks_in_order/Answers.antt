use Rattle.std.proofs.Common.{◌<◌, ◌≤◌, ℤ, pos, [], ◌∷◌, refl, arith}
use Rattle.std.specs.Prelude.{Some, None}
use Rattle.std.proofs.lemmas.List.Elements.{All-get_or, All-cons, All-nil}
use Rattle.nest_model.specs.Part.{field_named}
use Rattle.nest_model.specs.Fits.{Names, MeansField}
use Rattle.nest_model.proofs.constructor_examples.picks_in_order.Goals as goal

pub returns-clause-then_range : goal.returns-clause-then_range
returns-clause-then_range c =
    let P : ℤ → Type 0 = λ z. Names z 128 in
    let m : 1 ≤ 127 = omega arith in
    let z : 0 < 1 = omega arith in
    (refl, (refl, (m, ((refl, tt), (tt, (refl, (refl, λ h. let k : 200 < 128 = All-get_or P (pos 200 ∷ []) 0 (pos 0) z h in absurd (omega arith))))))))

pub returns-clause-then_types : goal.returns-clause-then_types
returns-clause-then_types c =
    let P : ℤ → Type 0 = λ z. Names z 128 in
    let Q : ℤ → Type 0 = λ k. MeansField (field_named (Some (pos 5 ∷ [])) k) 1 in
    let m : 1 ≤ 127 = omega arith in
    let a : 5 < 128 = omega arith in
    let z : 0 < 1 = omega arith in
    (refl, (refl, (m, ((refl, tt), (tt, (refl, (refl, (All-cons P (pos 5) [] a (All-nil P), λ h. All-get_or Q (pos 9 ∷ []) 0 (pos 0) z h))))))))

pub returns-clause-past_the_fields : goal.returns-clause-past_the_fields
returns-clause-past_the_fields c =
    let Q : ℤ → Type 0 = λ k. MeansField (field_named None k) 1 in
    let m : 1 ≤ 127 = omega arith in
    let z : 0 < 1 = omega arith in
    (refl, (refl, (m, ((refl, tt), (tt, (refl, (tt, (tt, λ h. let k : 1 < 1 = All-get_or Q (pos 1 ∷ []) 0 (pos 0) z h in absurd (omega arith)))))))))
