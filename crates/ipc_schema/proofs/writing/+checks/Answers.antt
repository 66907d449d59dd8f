use Rattle.std.proofs.Common.{◌≡◌, ◌<◌, map, sym, ap, ◌∙◌, arith}
use Rattle.std.proofs.lemmas.Result.{err_from_is_err_and}
use Rattle.nest_memory.specs.TypeOf.{field_of}
use Rattle.nest_memory.specs.TypeTree.{field_type}
use Rattle.ipc_schema.specs.Extensions.{spec_table_type}
use Rattle.ipc_schema.specs.Types.{spec_children_of}
use Rattle.ipc_schema.specs.WriteChecks.{spec_check_field}
use Rattle.ipc_schema.proofs.Fields.{form_more, form_ends, form_done}
use Rattle.ipc_schema.proofs.Levels.{no_form, own_ends, own_goes_on}
use Rattle.ipc_schema.proofs.writing.+checks.Goals as goal

pub check_each-loop-field-preserved : goal.check_each-loop-field-preserved
check_each-loop-field-preserved t c = form_more (spec_check_field c.args.depth) c.args.fields.now c.loop-field.field-index c.field-item.result c.loop-field-test.true c.field-item.is (sym c.in_ok-check_field.ensures) c.loop-field.invariant

pub check_each-returns-in_err-check_field : goal.check_each-returns-in_err-check_field
check_each-returns-in_err-check_field t c =
    let p = err_from_is_err_and c.from_residual.result c.from_residual.ensures.1 in
    rw (p.1, p.2) (sym (form_ends (spec_check_field c.args.depth) c.args.fields.now c.loop-field.field-index c.field-item.result _ c.loop-field-test.true c.field-item.is (sym c.in_err-check_field.ensures) c.loop-field.invariant))

pub check_each-returns : goal.check_each-returns
check_each-returns t c = sym (form_done (spec_check_field c.args.depth) c.args.fields.now c.loop-field.field-index c.loop-field-test.false c.loop-field.invariant)

pub check_field-returns-then-depth-eq0 : goal.check_field-returns-then-depth-eq0
check_field-returns-then-depth-eq0 t c = sym (no_form c.args.depth (field_of c.args.field.now) c.if-depth-eq0.true)

pub check_field-returns-in_err-check_own : goal.check_field-returns-in_err-check_own
check_field-returns-in_err-check_own t c =
    let p = err_from_is_err_and c.from_residual.result c.from_residual.ensures.1 in
    let deep : 0 < c.args.depth = omega (arith, c.if-depth-eq0.false) in
    rw (p.1, p.2) (sym (own_ends c.args.depth (field_of c.args.field.now) _ deep (sym c.in_err-check_own.ensures)))

pub check_field-returns : goal.check_field-returns
check_field-returns t c =
    let f = field_of c.args.field.now in
    let deep : 0 < c.args.depth = omega (arith, c.if-depth-eq0.false) in
    let kids : map field_of c.children_of.result.now ≡ spec_children_of (spec_table_type (field_type f)) = c.children_of.ensures ∙ ap spec_children_of (c.table_type.ensures ∙ ap spec_table_type c.data_type.ensures) in
    c.check_each.ensures ∙ rw kids (sym (own_goes_on c.args.depth f deep (sym c.in_ok-check_own.ensures)))
