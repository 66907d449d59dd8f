-- The words of this crate's contracts.
pub use Rattle.std.specs.Option.{option_map}
pub use Rattle.guide.specs.Columns.{EndsWith, child_layouts, empty_pair_builder, four_booleans, four_dictionary_values, four_lists, four_numbers, four_strings, four_structs, four_union_values, last_two_lists, map_type, max_list_length, numbers_layout, pushed_binaries, pushed_booleans, pushed_dictionary_values, pushed_fixed_binaries, pushed_strings, strings_layout, struct_fields, struct_list_type, structs_layout, three_lists, three_nulls, three_numbers, three_pairs, total, two_binaries, two_fixed_binaries, two_maps, two_pairs, two_struct_lists}
pub use Rattle.guide.specs.Orders.{FirstOf, HaveSameRows, Refuses, StreamRoundTrips, last_batch_in, order_schema, two_counts, two_orders}
pub use Rattle.ipc.specs.Files.{file_in, file_of, projected_file_in}
pub use Rattle.ipc.specs.Streams.{record_batch_of, stream_in}
pub use Rattle.ipc.specs.EncodedStreams.{AreSameBatches, decoded_batches, decoded_stream, encoded_stream}
pub use Rattle.ipc.specs.EncodedFiles.{decoded_file}
pub use Rattle.ipc_flatbuf.specs.ReadResults.{ReturnsOrRunsOut}
pub use Rattle.ipc_schema.specs.Projections.{named}
pub use Rattle.ipc_schema.specs.Schemas.{schema_of}
pub use Rattle.nest_array.specs.ScalarParts.{scalar_parts}
pub use Rattle.nest_array.specs.Seen.{layout_of, layouts_of}
pub use Rattle.nest_array.specs.WindowParts.{window_slots}
pub use Rattle.nest_flat.specs.FlatParts.{optional}
pub use Rattle.nest_memory.specs.Sublist.{sublist}
pub use Rattle.nest_memory.specs.Rising.{to_nat}
pub use Rattle.nest_memory.specs.TypeOf.{field_list_of, type_of}
pub use Rattle.nest_memory.specs.TypeText.{text_of_type}
pub use Rattle.nest_memory.specs.declared.error.Error.TheVariants.{Memory}
pub use Rattle.nest_model.specs.Accessors.{validity_of, with_validity}
pub use Rattle.nest_model.specs.Selected.{selected, mask_indices}
pub use Rattle.nest_model.specs.Fits.{ValidityError}
pub use Rattle.nest_model.specs.Layout.{layout_type}
pub use Rattle.nest_model.specs.Meaning.{len, slot, slots_of, where_valid}
pub use Rattle.nest_model.specs.SameArray.{IsSameArray}
pub use Rattle.nest_model.specs.Slot.{seal}
