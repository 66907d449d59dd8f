-- Names that the contracts of this crate use.
pub use Rattle.nest_memory.specs.Sublist.{sublist}
pub use Rattle.nest_memory.specs.Rising.{ends_from, largest_offset, last_of}
pub use Rattle.nest_memory.specs.TypeOf.{type_of}
pub use Rattle.nest_memory.specs.declared.error.Error.TheVariants.{InvalidArgumentError, Memory, Overflow}
pub use Rattle.nest_memory.specs.Physical.{binary_of_width, physical_type, utf8_of_width}
pub use Rattle.nest_memory.specs.declared.error.ArgumentError.TheVariants.{ItemType}
pub use Rattle.nest_model.specs.Array.{TopFits}
pub use Rattle.nest_model.specs.Accessors.{bytes_of, child_of, children_of, natives_of, offsets_of, validity_of}
pub use Rattle.nest_model.specs.Fits.{Fits}
pub use Rattle.nest_model.specs.Layout.{Layout, layout_type}
pub use Rattle.nest_model.specs.Meaning.{len, slots_of}
pub use Rattle.nest_model.specs.Part.{begin, count_rows, extent, valid_at}
pub use Rattle.nest_array.specs.WindowParts.{WindowParts, window_parts, window_slots}
pub use Rattle.nest_concat.specs.Interleaved.{AreIndicesOf, IsInterleaved, RefusesInterleave, slot_windows}
pub use Rattle.nest_concat.specs.Joined.{AreArrays, AreOfKind, AreOfOneType, AreWithin, EachJoined, HasFields, IsConcatenated, IsJoined, IsWithin, RefusesConcatenate, RefusesEach, RefusesJoin, first_array, whole, HaveKeys, RefusesKeys}
pub use Rattle.nest_concat.specs.Laid.{joined_layout, joined_rows, joins_past, laid, laid_each, laid_keys}
pub use Rattle.nest_concat.specs.Limits.{PassesLength, PassesLimits, PassesOffsets, PassesPicks, SomePasses}
pub use Rattle.nest_concat.specs.Lookups.{AreJoinedKeys, HaveValues, IsKeyPast, KeyPasses, KeysPass, KeysFit, KeyFits, SomePast, count_values, joined_keys, keys_in, moved_key, moved_keys, moved_run, values_in}
pub use Rattle.nest_concat.specs.Windows.{bits_in, blocks_in, blocks_of, bytes_in, window_item_count, count_of, count_slots, extents, extents_in, field_window, first_item, have_bits, items_in, concatenated_validity, natives_in, booleans_in, window_bits}
pub use Rattle.nest_concat.specs.Moved.{AreAdvanced, AreFew, ArePlaced, PassesOne, joined_offsets, moved_offsets, offset_by, type_ids_in}
pub use Rattle.nest_concat.specs.Parts.{behind, lowest, part_of, picks_in}
