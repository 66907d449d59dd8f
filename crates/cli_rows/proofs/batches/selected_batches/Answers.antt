use Rattle.std.proofs.Common.{ap, map, sym, ◌∙◌}
use Rattle.std.specs.List.{flat_map}
use Rattle.std.specs.Option.{option_map}
use Rattle.nest_memory.specs.TypeOf.{field_of}
use Rattle.nest_array.specs.Seen.{layout_of}
use Rattle.cli_args.specs.RequestTrees.{selection_tree}
use Rattle.cli_rows.specs.Rows.{rows_in, rows_of}
use Rattle.cli_rows.proofs.SelectedBatches.{selected-each}
use Rattle.cli_rows.proofs.batches.selected_batches.Goals as goal

pub batches_of_windows-requires : goal.batches_of_windows-requires
batches_of_windows-requires c =
    let fs = map field_of c.args.fields.now in
    let picked = sym c.in_ok-select_rows.ensures ∙ ap (option_map (λ v. flat_map rows_in v.items)) c.in-Some.is in
    rw c.deref-in_default-selection.ensures.value (selected-each fs (selection_tree c.args.selection.now) (flat_map rows_of (map layout_of c.args.arrays.now)) (flat_map rows_in c.in-Some.windows.items) picked c.requires)

pub copied_batches-requires : goal.copied_batches-requires
copied_batches-requires c =
    let fs = map field_of c.args.fields.now in
    let picked = sym c.in_ok-select_rows.ensures ∙ ap (option_map (λ v. flat_map rows_in v.items)) c.in-Some.is in
    rw c.deref.ensures.value (selected-each fs (selection_tree c.args.selection.now) (flat_map rows_of (map layout_of c.args.arrays.now)) (flat_map rows_in c.in-Some.windows.items) picked c.requires)
