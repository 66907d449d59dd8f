-- The names that this crate's contracts use, in one place.
pub use Rattle.nest_array.specs.Columns.{ColumnsError, ColumnsFit, RefusesColumns, column_fields, columns_struct}
pub use Rattle.nest_array.specs.Entries.{EntriesError, EntriesFit, RefusesEntries, entries_map, entries_struct, entry_fields, map_type, maps_over, two_children}
pub use Rattle.nest_array.specs.Refusals.{RefusesOrMemory}
pub use Rattle.nest_array.specs.RowSlots.{Alike, EachValid}
pub use Rattle.nest_array.specs.Seen.{layout_of, layouts_of}
pub use Rattle.nest_model.specs.Slot.{CountsComparisons, node_count, node_counts, seal}
pub use Rattle.nest_array.specs.WindowParts.{window_parts, window_slots}
pub use Rattle.nest_memory.specs.Sublist.{sublist}
pub use Rattle.nest_memory.specs.Physical.{physical_type}
pub use Rattle.nest_memory.specs.TypeOf.{field_list_of, field_of, type_of}
pub use Rattle.nest_memory.specs.TypeTree.{field, item_type, size_of}
pub use Rattle.nest_memory.specs.declared.error.Error.TheVariants.{Memory}
pub use Rattle.nest_model.specs.Accessors.{child_of, offsets_of, validity_of, with_validity}
pub use Rattle.nest_model.specs.Array.{Keeps, TopFits}
pub use Rattle.nest_model.specs.Slice.{IsSlice, slice_layout}
pub use Rattle.nest_model.specs.Fits.{EachLen, FirstError, Fits, HasValidity, RefusesValidity, ValidityError, ValidityFits}
pub use Rattle.nest_model.specs.Layout.{Layout, Layouts, layout_type}
pub use Rattle.nest_model.specs.MadeNulls.{AcceptsKind, HasNone, HasNulls, RefusesKind, RefusesType}
pub use Rattle.nest_model.specs.Meaning.{len, run, slot, slots_of, where_valid}
pub use Rattle.nest_model.specs.Nullness.{has_keys, is_null_at, null_count}
pub use Rattle.nest_model.specs.Part.{begin, extent}
pub use Rattle.nest_model.specs.SameArray.{IsSameArray, same_array}
