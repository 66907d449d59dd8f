use Rattle.std.proofs.Common.{sym}
use Rattle.std.proofs.lemmas.Slice.Eq.{slice_eq-Decides}
use Rattle.nest_model.specs.Slot as slots
use Rattle.nest_flat.proofs.RawValues.{mapped-same, numbers-decide, slot-one}
use Rattle.nest_flat.proofs.primitive.PrimitiveArray.equal_block.Goals as goal

pub returns-clause-raw : goal.returns-clause-raw
returns-clause-raw g c =
    let numbers = g.T.NativeType.numbers in
    let one = g.met.T.NativeType.injective in
    mapped-same numbers one _ _ _ _ _ (sym c.values_from.ensures.raw) (sym c.values_from-2.ensures.raw)
    (slice_eq-Decides (numbers-decide numbers one g.T.PartialEq.eq g.met.T.NativeType.decides) _ _ _ c.eq.ensures)

pub returns-clause-unmasked : goal.returns-clause-unmasked
returns-clause-unmasked g c =
    let numbers = g.T.NativeType.numbers in
    let one = g.met.T.NativeType.injective in
    mapped-same (λ x. slots.number (numbers x)) (slot-one numbers one) _ _ _ _ _ c.values_from.ensures.unmasked c.values_from-2.ensures.unmasked
    (slice_eq-Decides (numbers-decide numbers one g.T.PartialEq.eq g.met.T.NativeType.decides) _ _ _ c.eq.ensures)
