use Rattle.std.proofs.Common.{◌≡◌, ◌∙◌, ap, map, subst, sym}
use Rattle.nest_memory.specs.TypeOf.{field_of}
use Rattle.ipc_schema.specs.Schemas.{SchemaModel}
use Rattle.cli_args.specs.RequestTrees.{selection_tree}
use Rattle.cli_args.specs.Requests.{SelectionTree}
use Rattle.cli_rows.specs.ColumnNames.{resolved_selection}
use Rattle.cli_rows.specs.RowOrder.{IsInRowOrder}
use Rattle.cli_read.specs.Readers.{reader_schema, remaining_batches}
use Rattle.cli_read.specs.Remaining.{with_schema}
use Rattle.std.specs.Option.{option_map}
use Rattle.cli_write.specs.Copies.{Copies}
use Rattle.cli_write.proofs.Resolved.{copies-resolved, in-order}
use Rattle.cli_write.proofs.copier.copy_reader.Goals as goal

pub copy_resolved-requires : goal.copy_resolved-requires
copy_resolved-requires g c = subst IsInRowOrder (sym c.resolve_selection-left.ensures) (in-order (map field_of c.deref.result.now) (selection_tree c.args.selection) c.requires)

pub returns : goal.returns
returns g c =
    let d = selection_tree c.args.selection in
    let s = reader_schema c.args.reader in
    let t = remaining_batches g.R.Read.remaining g.R.Seek.stream_position g.R.Seek.stream_bytes c.args.reader in
    let x = option_map (with_schema s) t in
    let is : selection_tree c.resolve_selection-left.result ≡ resolved_selection s.fields d =
    c.resolve_selection-left.ensures ∙ ap (λ fs. resolved_selection (map field_of fs) d) c.deref.ensures.value ∙ ap (λ (z : SchemaModel). resolved_selection z.fields d) c.schema.ensures in
    copies-resolved g.W.Write.contents c.args.format d s t c.args.out c.copy_resolved.result
    (subst (λ (e : SelectionTree). Copies g.W.Write.contents c.args.format e x c.args.out c.copy_resolved.result) is c.copy_resolved.ensures)
