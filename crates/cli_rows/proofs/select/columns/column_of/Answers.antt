use Rattle.std.proofs.Common.{option_map}
use Rattle.nest_memory.specs.TypeOf.{field_list_of}
use Rattle.nest_model.specs.Meaning.{len}
use Rattle.nest_array.specs.Seen.{layout_of, layouts_of}
use Rattle.cli_args.specs.ColumnTrees.{column_tree}
use Rattle.cli_rows.proofs.RecordColumns.{column-length, is-column}
use Rattle.cli_rows.proofs.Values.{each-length}
use Rattle.cli_rows.proofs.select.columns.column_of.Goals as goal

pub returns-clause-values : goal.returns-clause-values
returns-clause-values c =
    is-column c.args.records.now c.known.ensures.kind c.known.ensures.fits (column_tree c.args.column.now) (field_list_of c.fields.result.now) (layouts_of c.values.result.now) c.fields.ensures c.values.ensures
    (option_map (λ a. layout_of a.now) c.child_of.result) c.child_of.ensures

pub returns-clause-length : goal.returns-clause-length
returns-clause-length c =
    each-length (λ a. layout_of a.now) c.child_of.result (len c.args.records.now)
    (column-length c.args.records.now c.known.ensures.kind c.known.ensures.fits (column_tree c.args.column.now) (field_list_of c.fields.result.now) (layouts_of c.values.result.now) c.fields.ensures c.values.ensures
    (option_map (λ a. layout_of a.now) c.child_of.result) c.child_of.ensures)
