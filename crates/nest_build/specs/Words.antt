-- Re-exports of the definitions that this crate's contracts use.
pub use Rattle.nest_array.specs.FixedBytes.{GivesOtherSize, IsMadeOf, IsOtherSize, joined_bytes, pushed_bytes, sized_bytes, with_bytes}
pub use Rattle.nest_array.specs.Seen.{layout_of}
pub use Rattle.nest_array.specs.Types.{default_field, default_list_type}
pub use Rattle.nest_build.specs.BuiltKind.{built_kind}
pub use Rattle.nest_build.specs.Children.{IsListBy, ListCovers, list_child, with_items}
pub use Rattle.nest_build.specs.FlatTree.{bytes_refusal, flat_tree}
pub use Rattle.nest_build.specs.Rows.{EndsPast, EncodesRows, WithinLimits, encoded_bits, encoded_rows, encoded_rows_checks}
pub use Rattle.nest_build.specs.Slices.{row_item, row_len}
pub use Rattle.nest_build.specs.Shown.{IsOfOtherKind, ShowsNulls, own_slot, reserve_passes}
pub use Rattle.nest_flat.specs.AnyMutablePrimitive.{built_layout}
pub use Rattle.nest_flat.specs.FlatParts.{optional}
pub use Rattle.nest_flat.specs.Growth.{CanDrain, is_masked}
pub use Rattle.nest_flat.specs.Plain.{plain_value, plain_values}
pub use Rattle.nest_flat.specs.Slices.{has_null}
pub use Rattle.nest_memory.specs.Sublist.{sublist}
pub use Rattle.nest_memory.specs.Physical.{physical_type}
pub use Rattle.nest_memory.specs.Rising.{largest_offset}
pub use Rattle.nest_memory.specs.TypeOf.{type_of}
pub use Rattle.nest_memory.specs.TypeTree.{item_type, size_of}
pub use Rattle.nest_memory.specs.declared.error.ArgumentError.TheVariants.{ChildNotEmpty, ItemSize, ItemType, Incomplete}
pub use Rattle.nest_memory.specs.declared.error.Error.TheVariants.{InvalidArgumentError, Memory, OutOfSpec, Overflow}
pub use Rattle.nest_memory.specs.declared.error.SpecError.TheVariants.{ZeroSize}
pub use Rattle.nest_model.specs.Accessors.{bytes_of, validity_of, with_validity}
pub use Rattle.nest_model.specs.Array.{TopFits}
pub use Rattle.nest_model.specs.BuilderAppend.{Accepted, AcceptedAll}
pub use Rattle.nest_model.specs.BuilderAddRow.{HasCompleteChildren, IsReady, RowAdded, RowsAdded, items_of_lengths, lengths_checks, pending_slot, row_checks, rows_of_lengths, with_row}
pub use Rattle.nest_model.specs.BuilderFreeze.{EncodesBits, offsets_from, row_bits}
pub use Rattle.nest_model.specs.BuilderItem.{Holds}
pub use Rattle.nest_model.specs.BuilderJoin.{Joined, join_checks, moved}
pub use Rattle.nest_model.specs.BuilderLevels.{own_slots, rows_of_items, rows_of_size}
pub use Rattle.nest_model.specs.BuilderReading.{Read, ReadsList, ReadsValue, Refused, RefusedSome, Consumed, ConsumedAll, ConsumedEach}
pub use Rattle.nest_model.specs.BuilderRefusals.{required_item, requirement_refusal, item_refusal, nulls_pass, plain_refusal}
pub use Rattle.nest_model.specs.BuilderRow.{RisesFrom, end_from, row_ending}
pub use Rattle.nest_model.specs.BuilderInput.{CanRead, CanReadList, YieldsAll, value_item}
pub use Rattle.nest_model.specs.BuilderTree.{BuilderTree, IsPast, builder_len, builder_type}
pub use Rattle.nest_model.specs.BuilderComplete.{IsComplete, truncate_builder, emptied}
pub use Rattle.nest_model.specs.Checks.{FailFirst, Pass, largest_length}
pub use Rattle.nest_model.specs.Slice.{slice_layout}
pub use Rattle.nest_model.specs.Fits.{FirstError, Fits, ValidityFits}
pub use Rattle.nest_model.specs.Layout.{Layout, layout_type}
pub use Rattle.nest_model.specs.Meaning.{len, slot, slots_of, where_valid}
pub use Rattle.nest_model.specs.Part.{valid_at}
