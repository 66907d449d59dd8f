use Rattle.std.proofs.Common.{◌∙◌, sym, ap, map}
use Rattle.nest_memory.specs.Rising.{are_offsets_from_zero}
use Rattle.nest_memory.proofs.OffsetReads.{starts_from_zero}
use Rattle.nest_memory.proofs.offsets.Offsets.try_new.Goals as goal

pub invariant_of-result : goal.invariant_of-result
invariant_of-result g c =
    starts_from_zero g.O.Offset.value _
    (ap (λ xs. are_offsets_from_zero (map g.O.Offset.value xs)) (sym c.as_slice.ensures.value) ∙ sym c.are_rising_from_zero.ensures ∙ c.if-not-are_rising_from_zero.false)
