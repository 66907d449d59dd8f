use Rattle.std.proofs.Common.{sym, ap, subst, ◌∙◌}
use Rattle.nest_model.specs.Array.{TopFits}
use Rattle.ipc_arrays.specs.NormalizedLaws.{is_null_layout, nulls_all, nulls_unset}
use Rattle.ipc_arrays.specs.Encoding.{is_supported}
use Rattle.ipc_arrays.specs.EncodingLaws.{null_bits}
use Rattle.ipc_arrays.proofs.layout.count_nulls.Goals as goal

pub returns-then-has_null_layout-clause-ok : goal.returns-then-has_null_layout-clause-ok
returns-then-has_null_layout-clause-ok c =
    let v = c.args.window.now in
    c.len.ensures ∙ sym (nulls_all v.array v.offset v.count (sym (c.has_null_layout.ensures ∙ ap is_null_layout c.array-array.ensures) ∙ c.if-has_null_layout.true))

pub returns-clause-ok : goal.returns-clause-ok
returns-clause-ok c =
    let v = c.args.window.now in
    let format = ap is_supported (sym c.array-array.ensures) ∙ c.known_kind.ensures.supported in
    c.count_unset_bits.ensures
    ∙ ap null_bits c.in_ok-validity.ensures.ok
    ∙ sym (nulls_unset v.array v.offset v.count (subst TopFits c.array-array.ensures c.known-2.ensures) format c.known.ensures (sym (c.has_null_layout.ensures ∙ ap is_null_layout c.array-array.ensures) ∙ c.if-has_null_layout.false))
