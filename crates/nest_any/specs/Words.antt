-- Re-exports of the definitions that this crate's contracts use.
pub use Rattle.nest_array.specs.Seen.{layout_of, layouts_of}
pub use Rattle.nest_any.specs.Refusals.{AreEachLong, AreFlat, AreFrozen, IsFrozenAs, IsListBuilder, IsOfLists, count_builders, empty_lists, first_rows, is_flat, keyed_checks, lists_checks, nested_checks, nested_over, struct_bits, struct_checks, struct_children}
pub use Rattle.nest_any.specs.TypedRows.{Fitting, HasItems, HasSize, child_nulls, items_needed, lists_over, rows_len}
pub use Rattle.nest_build.specs.Children.{list_child}
pub use Rattle.nest_build.specs.Rows.{encoded_bits}
pub use Rattle.nest_build.specs.Shown.{ShowsNulls, own_slot, reserve_passes, reserve_passes_each}
pub use Rattle.nest_memory.specs.Physical.{physical_type}
pub use Rattle.nest_memory.specs.TypeOf.{type_of}
pub use Rattle.nest_memory.specs.TypeTree.{item_type, key_type, value_type}
pub use Rattle.nest_memory.specs.declared.error.ArgumentError.TheVariants.{Incomplete}
pub use Rattle.nest_memory.specs.declared.error.Error.TheVariants.{InvalidArgumentError, Memory, Overflow}
pub use Rattle.nest_model.specs.BuilderAddRow.{RowAdded, with_row, AreEachComplete, HasCompleteChildren, HaveRows, row_checks}
pub use Rattle.nest_model.specs.BuilderAppend.{nulls_appended, nulls_appended_each}
pub use Rattle.nest_model.specs.BuilderFreeze.{EncodesBits}
pub use Rattle.nest_model.specs.BuilderLevels.{own_slots}
pub use Rattle.nest_model.specs.BuilderRefusals.{nulls_pass, nulls_pass_each}
pub use Rattle.nest_model.specs.BuilderTree.{BuilderTree, builder_len, builder_type, builder_types}
pub use Rattle.nest_model.specs.Layout.{field_types, layout_type}
pub use Rattle.nest_model.specs.BuilderComplete.{AreComplete, IsComplete, truncate_builder, truncate_builders, emptied, emptied_each}
pub use Rattle.nest_model.specs.Checks.{FailFirst, Pass, largest_length}
pub use Rattle.nest_model.specs.Fits.{ValidityFits}
pub use Rattle.nest_model.specs.Meaning.{slots_of}
pub use Rattle.nest_model.specs.Accessors.{validity_of}
pub use Rattle.nest_model.specs.Nullness.{null_count}
