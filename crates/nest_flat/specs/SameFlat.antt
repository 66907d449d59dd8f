-- Equality of flat arrays is an equivalence.
use Rattle.std.specs.Cmp.{IsEquivalence, on_equiv, and_equiv}
use Rattle.nest_memory.specs.TypeEq.{same_type-equiv}
use Rattle.nest_model.specs.Layout.{layout_type}
use Rattle.nest_model.specs.Meaning.{slots_of}
use Rattle.nest_model.specs.SlotCode.{same_slots-equiv}
use Rattle.nest_model.specs.SameArray.{same_array}

pub same_array-equiv : IsEquivalence same_array
same_array-equiv = and_equiv (on_equiv layout_type same_type-equiv) (on_equiv slots_of same_slots-equiv)
