use Rattle.std.proofs.Common.{sym, ap, ◌∙◌}
use Rattle.std.specs.Prelude.{option_map}
use Rattle.ipc_arrays.specs.Decoding.{are_known_types}
use Rattle.ipc_arrays.proofs.Marks.{types_read, types_refused}
use Rattle.ipc_arrays.proofs.union.read_types.Goals as goal

pub returns-then-not-have_fields : goal.returns-then-not-have_fields
returns-then-not-have_fields c = λ known.
    types_refused (option_map (λ v. v.items) c.args.ids.now) c.args.fields c.args.slots c.args.bytes.now c.in_ok-kinds.kinds c.in_ok-kinds.ensures
    (ap (are_known_types (option_map (λ v. v.items) c.args.ids.now) c.args.fields) (sym c.as_slice.ensures) ∙ sym c.have_fields.ensures ∙ c.if-not-have_fields.true)

pub returns : goal.returns
returns c =
    types_read (option_map (λ v. v.items) c.args.ids.now) c.args.fields c.args.slots c.args.bytes.now c.in_ok-kinds.kinds c.in_ok-kinds.ensures
    (ap (are_known_types (option_map (λ v. v.items) c.args.ids.now) c.args.fields) (sym c.as_slice.ensures) ∙ sym c.have_fields.ensures ∙ c.if-not-have_fields.false)
