-- The slots that round-trip through JSON: without unions, of bytes below 256 and integers of at most 128 bits. All slots of arrays without unions
-- are such slots. Of floating-point numbers, NaN has one text for all payloads.
use Rattle.std.specs.Prelude.{ℕ, ◌<◌, List, [], ◌∷◌}
use Rattle.nest_model.specs.Slot as slots
use Rattle.nest_model.specs.Slot.{Slot, Slots, no_slots, more_slots}
use Rattle.json_write.specs.TypedSlots.{NumbersFitIn128Bits}

abbrev pub AreBytes : List ℕ → Type 0
AreBytes [] = Unit {0}
AreBytes (b ∷ bs) = (b < 256) × AreBytes bs

abbrev mutual
  pub CanRoundTrip : Slot → Type 0
  CanRoundTrip slots.null = Unit {0}
  CanRoundTrip (slots.boolean b) = Unit {0}
  CanRoundTrip (slots.number zs) = NumbersFitIn128Bits zs
  CanRoundTrip (slots.utf8 bs) = Unit {0}
  CanRoundTrip (slots.bytes bs) = AreBytes bs
  CanRoundTrip (slots.list ss) = CanAllRoundTrip ss
  CanRoundTrip (slots.record_of ss) = CanAllRoundTrip ss
  CanRoundTrip (slots.pick f u s) = ⊥

  pub CanAllRoundTrip : Slots → Type 0
  CanAllRoundTrip no_slots = Unit {0}
  CanAllRoundTrip (more_slots s ss) = CanRoundTrip s × CanAllRoundTrip ss
