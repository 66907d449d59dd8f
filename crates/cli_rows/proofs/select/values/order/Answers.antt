use Rattle.std.proofs.Common.{sym, ap, ◌∙◌}
use Rattle.nest_model.specs.Layout.{layout_type}
use Rattle.nest_array.specs.Seen.{layout_of}
use Rattle.cli_rows.specs.Kinds.{spec_column_kind}
use Rattle.cli_rows.proofs.Values.{keyed-kind, unkeyed-kind}
use Rattle.cli_rows.proofs.select.values.order.Goals as goal

pub order_of_kind-requires-clause-kind : goal.order_of_kind-requires-clause-kind
order_of_kind-requires-clause-kind c =
    unkeyed-kind (layout_type (layout_of c.args.array.now)) c.in-Some.kind c.in-None.ensures (ap spec_column_kind (sym c.data_type.ensures) ∙ sym c.in-Some.ensures)

pub order_of_kind-requires-in-Some-as_dictionary-clause-kind : goal.order_of_kind-requires-in-Some-as_dictionary-clause-kind
order_of_kind-requires-in-Some-as_dictionary-clause-kind c =
    let d = c.in-Some-as_dictionary.dictionary.now in
    let kind = ap (λ a. spec_column_kind (layout_type a)) c.in-Some-as_dictionary.ensures.1 ∙ ap spec_column_kind (sym c.data_type.ensures) ∙ sym c.in-Some.ensures in
    keyed-kind d (layout_of c.values.result.now) c.in-Some.kind c.known-in-Some-as_dictionary.ensures.fits c.known-in-Some-as_dictionary.ensures.kind c.values.ensures kind
