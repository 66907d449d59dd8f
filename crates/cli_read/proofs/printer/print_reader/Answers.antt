use Rattle.std.proofs.Common.{◌≡◌, ◌∙◌, ap, map, subst, sym}
use Rattle.std.specs.Option.{option_map}
use Rattle.nest_memory.specs.TypeOf.{field_of}
use Rattle.ipc_schema.specs.Schemas.{SchemaModel}
use Rattle.cli_args.specs.RequestTrees.{request_tree}
use Rattle.cli_args.specs.Requests.{RequestTree}
use Rattle.cli_rows.specs.ColumnNames.{resolved_request}
use Rattle.cli_read.specs.Printed.{Prints}
use Rattle.cli_read.specs.Readers.{reader_schema, remaining_batches}
use Rattle.cli_read.specs.Remaining.{with_schema}
use Rattle.cli_read.specs.RemainingRequests.{IsRequestInRowOrder}
use Rattle.cli_read.proofs.Resolved.{in-order, prints-resolved}
use Rattle.cli_read.proofs.printer.print_reader.Goals as goal

pub print_resolved-requires : goal.print_resolved-requires
print_resolved-requires g c = subst IsRequestInRowOrder (sym c.resolve_request-request.ensures) (in-order (map field_of c.deref.result.now) (request_tree c.args.request) c.requires)

pub returns : goal.returns
returns g c =
    let q = request_tree c.args.request in
    let s = reader_schema c.args.reader in
    let t = remaining_batches g.R.Read.remaining g.R.Seek.stream_position g.R.Seek.stream_bytes c.args.reader in
    let old = g.W.Write.contents c.args.out.now in
    let new = g.W.Write.contents c.print_resolved.new.out in
    let is : request_tree c.resolve_request-request.result ≡ resolved_request s.fields q =
    c.resolve_request-request.ensures ∙ ap (λ fs. resolved_request (map field_of fs) q) c.deref.ensures.value ∙ ap (λ (z : SchemaModel). resolved_request z.fields q) c.schema.ensures in
    prints-resolved q s t c.print_resolved.result old new
    (subst (λ (r : RequestTree). Prints r (option_map (with_schema s) t) c.print_resolved.result old new) is c.print_resolved.ensures)
