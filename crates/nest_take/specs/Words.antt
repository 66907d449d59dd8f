-- Names that the contracts of this crate use.
pub use Rattle.nest_memory.specs.Sublist.{sublist}
pub use Rattle.nest_memory.specs.Rising.{ends_from, last_of}
pub use Rattle.nest_memory.specs.TypeOf.{type_of}
pub use Rattle.nest_memory.specs.declared.error.Error.TheVariants.{Memory, Overflow}
pub use Rattle.nest_model.specs.Layout.{Layout, layout_type}
pub use Rattle.nest_model.specs.Meaning.{len, slots_of}
pub use Rattle.nest_model.specs.Part.{begin, count_rows, valid_at}
pub use Rattle.nest_take.specs.Limits.{PassesLength, PassesLimits, PassesOffsets, PicksPass, SomePasses}
pub use Rattle.nest_take.specs.Indices.{AreAt, AreBelow, ReachesBits, block_indices, blocks_at, count_at, item_indices, items_at, taken_validity}
pub use Rattle.nest_take.specs.Taken.{EachPicked, EachReaches, EachTaken, IsTaken, RefusesTake, offsets_in, pick_indices}
pub use Rattle.nest_take.specs.TakenKeys.{AreKeysAt, AreRawKeysAt, IsRawKey}
