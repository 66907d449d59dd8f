-- Re-exports of the definitions that this crate's contracts use.
pub use Rattle.nest_flat.specs.AnyMutablePrimitive.{built_layout}
pub use Rattle.nest_flat.specs.AnyNative.{native_kind, native_numbers}
pub use Rattle.nest_flat.specs.AnyPrimitive.{primitive_kind, primitive_layout}
pub use Rattle.nest_flat.specs.BytesGrowth.{AreSpans, NullsAreBare, bare_spans, binary_tree, first_spans, item_bytes, item_refusal, joined_spans, no_spans, pushed_item, pushed_span, spans, spans_of, text_tree, with_spans}
pub use Rattle.nest_flat.specs.Extensions.{BytesExtended, NativesExtended}
pub use Rattle.nest_flat.specs.FlatParts.{ValidityCovers, flat_checks, optional, unset_count}
pub use Rattle.nest_flat.specs.Growth.{CanDrain, Extended, Grew, IsReportedError, RefusesBeginning, first_slots, is_masked, joined_parts, joined_validity, native_refusal, pushed_native, pushed_boolean, pushed_validity, rolled_back, boolean_refusal, zeros}
pub use Rattle.nest_flat.specs.Plain.{plain_value, plain_values}
pub use Rattle.nest_memory.specs.Sublist.{sublist}
pub use Rattle.nest_memory.specs.Physical.{binary_of_width, physical_type, primitive_tree, utf8_of_width}
pub use Rattle.nest_memory.specs.Rising.{last_of}
pub use Rattle.nest_memory.specs.TypeOf.{type_of}
pub use Rattle.nest_memory.specs.declared.error.ArgumentError.TheVariants.{ItemType}
pub use Rattle.nest_memory.specs.declared.error.Error.{Error}
pub use Rattle.nest_memory.specs.declared.error.Error.TheVariants.{InvalidArgumentError, Memory, Overflow}
pub use Rattle.nest_flat.specs.NewArrays.{IsNewArray, ReplacesValidity}
pub use Rattle.nest_model.specs.Accessors.{bits_of, bytes_of, natives_of, offsets_of, validity_of, with_type, with_validity}
pub use Rattle.nest_model.specs.Array.{AreOffsets, TopFits}
pub use Rattle.nest_model.specs.BuilderItem.{PlainValue, bytes_held}
pub use Rattle.nest_model.specs.BuilderInput.{YieldsAll}
pub use Rattle.nest_model.specs.BuilderTree.{IsPast}
pub use Rattle.nest_model.specs.Checks.{FailFirst, Pass}
pub use Rattle.nest_model.specs.Slice.{IsSlice, slice_layout}
pub use Rattle.nest_model.specs.Fits.{EachUtf8, FirstError, Fits, HasValidity, RefusesValidity, ValidityError, ValidityFits}
pub use Rattle.nest_model.specs.Layout.{Layout, layout_type}
pub use Rattle.nest_model.specs.MadeNulls.{AcceptsKind, HasNone, HasNulls, RefusesKind}
pub use Rattle.nest_model.specs.Meaning.{len, run, slot, slots_of, where_valid}
pub use Rattle.nest_model.specs.Nullness.{is_null_at, null_count}
pub use Rattle.nest_model.specs.NullLayout.{none_valid, null_array}
pub use Rattle.nest_model.specs.Nulls.{Fills, empty_error, error_of, type_error}
pub use Rattle.nest_model.specs.Part.{begin, count_rows, sliced_validity, extent, valid_at}
pub use Rattle.nest_model.specs.SameArray.{IsSameArray, same_array}
pub use Rattle.nest_model.specs.Slot.{Slot}
