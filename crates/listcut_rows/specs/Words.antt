-- The definitions that the contracts of this crate cite.
pub use Rattle.listcut_rows.specs.Grammar.{slice_rows, spec_has_leading_zero, parsed_item, parsed_items, lines_of, parsed_number, parsed_indices, parsed_selection, parsed_row, take_rows, parsed_rows, number_below, parsed_slice}
pub use Rattle.listcut_rows.specs.Outcome.{IsRunResult, IsSelectError, IsInputOrMemoryError, ExceedsItemLimit, IsReadError, Writes, expected_result, selected_rows}
pub use Rattle.listcut_rows.specs.Rows.{AreRows, item_count}
pub use Rattle.listcut_rows.specs.Selections.{IsArgumentError, selection_of}
pub use Rattle.listcut_rows.specs.RowSlots.{item_slot, slot_of_row}
pub use Rattle.listcut_rows.specs.RowText.{IsFirstInvalidLine, IsRowsText, item_text, row_text, rows_text}
pub use Rattle.listcut_rows.specs.declared.error.ListcutError.TheVariants.{Memory}
pub use Rattle.nest_array.specs.Seen.{layout_of}
pub use Rattle.nest_array.specs.Types.{default_list_type}
pub use Rattle.listcut_rows.specs.RowsBuilder.{item_total, tree_of}
pub use Rattle.nest_memory.specs.Sublist.{sublist}
pub use Rattle.nest_memory.specs.TypeTree.{item_type}
pub use Rattle.nest_model.specs.BuilderLevels.{own_slots}
pub use Rattle.nest_model.specs.BuilderTree.{builder_len, builder_type}
pub use Rattle.nest_model.specs.BuilderComplete.{IsComplete}
pub use Rattle.nest_model.specs.Selected.{selected}
pub use Rattle.nest_model.specs.Layout.{layout_type}
pub use Rattle.nest_model.specs.Meaning.{len, slot, slots_of}
pub use Rattle.nest_model.specs.Slot.{Slot}
