use Rattle.std.proofs.Common.{◌≡◌, ◌<◌, ◌++◌, ◌∷◌, [], map, sym, arith}
use Rattle.std.proofs.lemmas.Result.{err_from_is_err_and}
use Rattle.std.proofs.lemmas.List.{map_push}
use Rattle.ipc_schema.specs.FieldVectors.{tables_in_turn, field_goes_on, field_lacks_offset, field_fails, fields_are_done}
use Rattle.ipc_schema.specs.FieldSupport.{field_support_of, spec_support_at}
use Rattle.ipc_schema.proofs.Supported.{support_level, no_support_level}
use Rattle.ipc_schema.proofs.field_support.+supported.Goals as goal

pub support_of_items-returns-in_err-position : goal.support_of_items-returns-in_err-position
support_of_items-returns-in_err-position t c =
    let p = err_from_is_err_and c.from_residual.result c.from_residual.ensures.1 in
    let read = spec_support_at c.args.depth c.args.bytes.now in
    rw (p.1, p.2) (λ known. field_lacks_offset read c.args.bytes.now (map field_support_of c.loop-i.fields.items) c.args.items.count c.args.items.first c.loop-i.i c.loop-i.rest c.in_err-position.field-0.0 (tables_in_turn read c.args.bytes.now c.args.items.count c.args.items.first c.args.left) c.loop-i-test.true (sym c.in_err-position.ensures) c.loop-i.invariant)

pub support_of_items-returns-in_err-field : goal.support_of_items-returns-in_err-field
support_of_items-returns-in_err-field t c =
    let p = err_from_is_err_and c.from_residual-in_err-field.result c.from_residual-in_err-field.ensures.1 in
    let read = spec_support_at c.args.depth c.args.bytes.now in
    rw (p.1, p.2) (field_fails c.in_err-field.field-0.0 read c.args.bytes.now (map field_support_of c.loop-i.fields.items) c.args.items.count c.args.items.first c.loop-i.i c.loop-i.rest c.in_ok-position.position (tables_in_turn read c.args.bytes.now c.args.items.count c.args.items.first c.args.left) c.loop-i-test.true (sym c.in_ok-position.ensures) c.in_err-field.ensures c.loop-i.invariant)

pub support_of_items-loop-i-preserved : goal.support_of_items-loop-i-preserved
support_of_items-loop-i-preserved t c =
    let f = c.in_ok-field.field in
    let read = spec_support_at c.args.depth c.args.bytes.now in
    let e : map field_support_of c.push.new.self.items ≡ map field_support_of c.loop-i.fields.items ++ field_support_of f ∷ [] = rw c.in_ok-push.ensures.items (map_push _ c.loop-i.fields.items f) in
    rw e (field_goes_on read c.args.bytes.now (map field_support_of c.loop-i.fields.items) c.args.items.count c.args.items.first c.loop-i.i c.loop-i.rest c.in_ok-position.position (field_support_of f) c.in_ok-field.after (tables_in_turn read c.args.bytes.now c.args.items.count c.args.items.first c.args.left) c.loop-i-test.true (sym c.in_ok-position.ensures) c.in_ok-field.ensures c.loop-i.invariant)

pub support_of_items-returns : goal.support_of_items-returns
support_of_items-returns t c =
    let read = spec_support_at c.args.depth c.args.bytes.now in
    fields_are_done read c.args.bytes.now (map field_support_of c.loop-i.fields.items) c.args.items.count c.args.items.first c.loop-i.i c.loop-i.rest (tables_in_turn read c.args.bytes.now c.args.items.count c.args.items.first c.args.left) c.loop-i-test.false c.loop-i.invariant

pub support_at-returns : goal.support_at-returns
support_at-returns t c =
    let deep : 0 < c.args.depth = omega (arith, c.if-depth-eq0.false) in
    rw (support_level c.args.depth c.args.bytes.now c.args.position c.args.left deep) c.support_over.ensures

pub support_at-returns-then-depth-eq0 : goal.support_at-returns-then-depth-eq0
support_at-returns-then-depth-eq0 t c = λ known. no_support_level c.args.depth c.args.bytes.now c.args.position c.args.left c.if-depth-eq0.true
