use Rattle.std.proofs.Common.{map}
use Rattle.nest_memory.specs.TypeOf.{field_of}
use Rattle.nest_model.specs.Accessors.{validity_of}
use Rattle.nest_model.specs.Layout.{layout_type}
use Rattle.nest_array.specs.Seen.{layout_of, layouts_of}
use Rattle.cli_rows.proofs.SelectedBatches.{columns-made, first-struct, no-fields, nulls-rows, records-rows, some-fields}
use Rattle.cli_rows.proofs.batches.batch_of.Goals as goal

pub returns-then-is_empty : goal.returns-then-is_empty
returns-then-is_empty c =
    let none = no-fields field_of c.args.fields.now c.if-is_empty.ensures in
    nulls-rows _ (layout_of c.args.array) _ none c.len-rows.ensures c.requires.rows

pub columns_of-requires : goal.columns_of-requires
columns_of-requires c =
    let some = some-fields field_of c.args.fields.now c.if-is_empty.ensures in
    first-struct (map field_of c.args.fields.now) (layout_of c.args.array) some c.requires.some c.requires.rows

pub returns : goal.returns
returns c =
    let a = layout_of c.args.array in
    let some = some-fields field_of c.args.fields.now c.if-is_empty.ensures in
    records-rows (map field_of c.args.fields.now) a _ (layouts_of c.columns_of.result.items) (validity_of a) some c.requires.some c.columns_of.ensures (columns-made (layout_type a) c.columns_of.result.items) c.requires.rows
