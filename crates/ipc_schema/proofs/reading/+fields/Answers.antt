use Rattle.std.proofs.Common.{◌≡◌, ◌<◌, ◌++◌, ◌∷◌, [], map, sym, arith}
use Rattle.std.proofs.lemmas.Result.{err_from_is_err_and}
use Rattle.std.proofs.lemmas.List.{map_push}
use Rattle.nest_memory.specs.TypeOf.{field_of}
use Rattle.ipc_schema.specs.Dictionaries.{progress}
use Rattle.ipc_schema.specs.DictionaryModels.{seen_of}
use Rattle.ipc_schema.specs.FieldVectors.{tables_in_turn, field_goes_on, field_lacks_offset, field_fails, fields_are_done}
use Rattle.ipc_schema.specs.Schemas.{spec_field_at}
use Rattle.ipc_schema.proofs.Levels.{level_is, no_level}
use Rattle.ipc_schema.proofs.reading.+fields.Goals as goal

pub fields_at-returns-in_err-position : goal.fields_at-returns-in_err-position
fields_at-returns-in_err-position t c =
    let p = err_from_is_err_and c.from_residual.result c.from_residual.ensures.1 in
    let read = spec_field_at c.args.depth c.args.bytes.now in
    rw (p.1, p.2) (λ known. field_lacks_offset read c.args.bytes.now (map field_of c.loop-i.fields.items) c.args.items.count c.args.items.first c.loop-i.i (progress c.loop-i.rest (seen_of c.loop-i.seen)) c.in_err-position.field-0.0 (tables_in_turn read c.args.bytes.now c.args.items.count c.args.items.first (progress c.args.left (seen_of c.args.seen.now))) c.loop-i-test.true (sym c.in_err-position.ensures) c.loop-i.invariant)

pub fields_at-returns-in_err-field : goal.fields_at-returns-in_err-field
fields_at-returns-in_err-field t c =
    let p = err_from_is_err_and c.from_residual-in_err-field.result c.from_residual-in_err-field.ensures.1 in
    let read = spec_field_at c.args.depth c.args.bytes.now in
    rw (p.1, p.2) (field_fails c.in_err-field.field-0.0 read c.args.bytes.now (map field_of c.loop-i.fields.items) c.args.items.count c.args.items.first c.loop-i.i (progress c.loop-i.rest (seen_of c.loop-i.seen)) c.in_ok-position.position (tables_in_turn read c.args.bytes.now c.args.items.count c.args.items.first (progress c.args.left (seen_of c.args.seen.now))) c.loop-i-test.true (sym c.in_ok-position.ensures) c.in_err-field.ensures c.loop-i.invariant)

pub fields_at-loop-i-preserved : goal.fields_at-loop-i-preserved
fields_at-loop-i-preserved t c =
    let f = c.in_ok-field.field in
    let read = spec_field_at c.args.depth c.args.bytes.now in
    let e : map field_of c.push.new.self.items ≡ map field_of c.loop-i.fields.items ++ field_of f ∷ [] = rw c.in_ok-push.ensures.items (map_push _ c.loop-i.fields.items f) in
    rw e (field_goes_on read c.args.bytes.now (map field_of c.loop-i.fields.items) c.args.items.count c.args.items.first c.loop-i.i (progress c.loop-i.rest (seen_of c.loop-i.seen)) c.in_ok-position.position (field_of f) (progress c.in_ok-field.after (seen_of c.field_at.new.seen)) (tables_in_turn read c.args.bytes.now c.args.items.count c.args.items.first (progress c.args.left (seen_of c.args.seen.now))) c.loop-i-test.true (sym c.in_ok-position.ensures) c.in_ok-field.ensures c.loop-i.invariant)

pub fields_at-returns : goal.fields_at-returns
fields_at-returns t c =
    let read = spec_field_at c.args.depth c.args.bytes.now in
    fields_are_done read c.args.bytes.now (map field_of c.loop-i.fields.items) c.args.items.count c.args.items.first c.loop-i.i (progress c.loop-i.rest (seen_of c.loop-i.seen)) (tables_in_turn read c.args.bytes.now c.args.items.count c.args.items.first (progress c.args.left (seen_of c.args.seen.now))) c.loop-i-test.false c.loop-i.invariant

pub field_at-returns : goal.field_at-returns
field_at-returns t c =
    let deep : 0 < c.args.depth = omega (arith, c.if-depth-eq0.false) in
    rw (level_is c.args.depth c.args.bytes.now c.args.position (progress c.args.left (seen_of c.args.seen.now)) deep) c.field_over.ensures

pub field_at-returns-then-depth-eq0 : goal.field_at-returns-then-depth-eq0
field_at-returns-then-depth-eq0 t c = λ known. no_level c.args.depth c.args.bytes.now c.args.position (progress c.args.left (seen_of c.args.seen.now)) c.if-depth-eq0.true
