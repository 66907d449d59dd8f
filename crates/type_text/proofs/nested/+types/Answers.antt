use Rattle.std.proofs.Common.{rules, ◌≡◌, ◌++◌, [], ◌∷◌, length, map, refl, arith}
use Rattle.std.specs.Option.{option_to_list}
use Rattle.std.proofs.lemmas.List.{map_push}
use Rattle.std.proofs.lemmas.Result.{err_from_is_err_and}
use Rattle.nest_memory.specs.TypeOf.{field_of}
use Rattle.type_text.specs.TypeParser.{read_some_fields, read_type}
use Rattle.type_text.proofs.Steps.{ends-here, goes-on, no-keyword, no-level, one-level, part_errors-at-end, part_errors-at-field, part_errors-at-id, too-many}
use Rattle.type_text.proofs.nested.+types.Goals.{some_fields-in-Some+in_ok-push-2, some_fields-in_default}
use Rattle.type_text.proofs.nested.+types.Goals as goal

pub some_fields-field-requires-text-text : goal.some_fields-field-requires-text-text
some_fields-field-requires-text-text t c κs = c.loop.invariant.0

pub some_fields-returns-in_err-field : goal.some_fields-returns-in_err-field
some_fields-returns-in_err-field t c =
    let p = err_from_is_err_and c.from_residual.result c.from_residual.ensures.1 in
    rw (p.1, p.2) (part_errors-at-field (map field_of c.loop.fields.items) c.loop.ids.items c.args.has_ids (read_type c.args.levels) (length c.args.text.now) c.loop.counter c.loop.rest.now c.in_err-field.field-0.0 (read_some_fields c.args.has_ids (read_type c.args.levels) (length c.args.text.now) c.args.text.now) c.loop-test.true c.in_err-field.ensures c.loop.invariant.1)

pub some_fields-returns-in_err-id : goal.some_fields-returns-in_err-id
some_fields-returns-in_err-id t c =
    let p = err_from_is_err_and c.from_residual-in_err-id.result c.from_residual-in_err-id.ensures.1 in
    rw (p.1, p.2) (part_errors-at-id (map field_of c.loop.fields.items) c.loop.ids.items c.args.has_ids (read_type c.args.levels) (length c.args.text.now) c.loop.counter c.loop.rest.now c.in_ok-field.after.now (field_of c.in_ok-field.field) c.in_err-id.field-0.0 (read_some_fields c.args.has_ids (read_type c.args.levels) (length c.args.text.now) c.args.text.now) c.loop-test.true c.in_ok-field.ensures c.in_err-id.ensures c.loop.invariant.1)

pub some_fields-returns-in_err-end-in-None : goal.some_fields-returns-in_err-end-in-None
some_fields-returns-in_err-end-in-None t c =
    let p = err_from_is_err_and c.from_residual-in_err-end-in-None.result c.from_residual-in_err-end-in-None.ensures.1 in
    rw (p.1, p.2) (part_errors-at-end (map field_of c.loop.fields.items) c.loop.ids.items c.args.has_ids (read_type c.args.levels) (length c.args.text.now) c.loop.counter c.loop.rest.now c.in_ok-field.after.now c.in_ok-id.after.now (field_of c.in_ok-field.field) c.in_ok-id.id c.in_err-end-in-None.field-0.0 (read_some_fields c.args.has_ids (read_type c.args.levels) (length c.args.text.now) c.args.text.now) c.loop-test.true c.in_ok-field.ensures c.in_ok-id.ensures c.in-None.ensures c.in_err-end-in-None.ensures c.loop.invariant.1)

pub some_fields-returns-in-None : goal.some_fields-returns-in-None
some_fields-returns-in-None t c =
    let fs : map field_of c.push.new.self.items ≡ map field_of c.loop.fields.items ++ field_of c.in_ok-field.field ∷ [] = rw c.in_ok-push.ensures.items (map_push _ c.loop.fields.items c.in_ok-field.field) in
    let is : c.match-id.ids.items ≡ c.loop.ids.items ++ option_to_list c.in_ok-id.id = elim c.match-id.branch [ some_fields-in-Some+in_ok-push-2 w ↦ first_of (search rules, grind arith) | some_fields-in_default w ↦ first_of (search rules, grind arith) ] in
    rw (fs, is) (ends-here (map field_of c.loop.fields.items) c.loop.ids.items c.args.has_ids (read_type c.args.levels) (length c.args.text.now) c.loop.counter c.loop.rest.now c.in_ok-field.after.now c.in_ok-id.after.now c.in_ok-end-in-None.end.now (field_of c.in_ok-field.field) c.in_ok-id.id (read_some_fields c.args.has_ids (read_type c.args.levels) (length c.args.text.now) c.args.text.now) c.loop-test.true c.in_ok-field.ensures c.in_ok-id.ensures c.in-None.ensures c.in_ok-end-in-None.ensures c.loop.invariant.1)

pub some_fields-loop-preserved : goal.some_fields-loop-preserved
some_fields-loop-preserved t c =
    let fs : map field_of c.push.new.self.items ≡ map field_of c.loop.fields.items ++ field_of c.in_ok-field.field ∷ [] = rw c.in_ok-push.ensures.items (map_push _ c.loop.fields.items c.in_ok-field.field) in
    let is : c.match-id.ids.items ≡ c.loop.ids.items ++ option_to_list c.in_ok-id.id = elim c.match-id.branch [ some_fields-in-Some+in_ok-push-2 w ↦ first_of (search rules, grind arith) | some_fields-in_default w ↦ first_of (search rules, grind arith) ] in
    (search rules, rw (fs, is) (goes-on (map field_of c.loop.fields.items) c.loop.ids.items c.args.has_ids (read_type c.args.levels) (length c.args.text.now) c.loop.counter c.loop.rest.now c.in_ok-field.after.now c.in_ok-id.after.now c.in-Some-strip_prefix.next.now (field_of c.in_ok-field.field) c.in_ok-id.id (read_some_fields c.args.has_ids (read_type c.args.levels) (length c.args.text.now) c.args.text.now) c.loop-test.true c.in_ok-field.ensures c.in_ok-id.ensures c.in-Some-strip_prefix.ensures c.loop.invariant.1))

pub some_fields-returns : goal.some_fields-returns
some_fields-returns t c = too-many (map field_of c.loop.fields.items) c.loop.ids.items c.args.has_ids (read_type c.args.levels) (length c.args.text.now) c.loop.counter c.loop.rest.now (read_some_fields c.args.has_ids (read_type c.args.levels) (length c.args.text.now) c.args.text.now) c.loop-test.false c.loop.invariant.1

pub type_at-returns-then-levels-eq0 : goal.type_at-returns-then-levels-eq0
type_at-returns-then-levels-eq0 t c = no-level c.args.levels c.args.text.now (omega arith)

pub type_at-returns-in_err-keyword : goal.type_at-returns-in_err-keyword
type_at-returns-in_err-keyword t c =
    let p = err_from_is_err_and c.from_residual.result c.from_residual.ensures.1 in
    rw (p.1, p.2) (no-keyword c.args.levels c.args.text.now c.in_err-keyword.field-0.0 (omega arith) c.in_err-keyword.ensures)

pub type_at-returns-in_ok-plain-in-Plain : goal.type_at-returns-in_ok-plain-in-Plain
type_at-returns-in_ok-plain-in-Plain t c = let e = one-level c.args.levels c.args.text.now c.in_ok-keyword.keyword c.in_ok-keyword.rest.now (omega arith) c.in_ok-keyword.ensures in rw (e, c.in-Plain.is, c.in_ok-plain-in-Plain.ensures) refl

pub type_at-returns-in-Integer : goal.type_at-returns-in-Integer
type_at-returns-in-Integer t c = let e = one-level c.args.levels c.args.text.now c.in_ok-keyword.keyword c.in_ok-keyword.rest.now (omega arith) c.in_ok-keyword.ensures in rw (e, c.in-Integer.is, c.from.ensures) refl

pub type_at-returns-in-Parametric : goal.type_at-returns-in-Parametric
type_at-returns-in-Parametric t c = let e = one-level c.args.levels c.args.text.now c.in_ok-keyword.keyword c.in_ok-keyword.rest.now (omega arith) c.in_ok-keyword.ensures in rw (e, c.in-Parametric.is) c.parametric.ensures

pub type_at-returns-in-Nested : goal.type_at-returns-in-Nested
type_at-returns-in-Nested t c = let e = one-level c.args.levels c.args.text.now c.in_ok-keyword.keyword c.in_ok-keyword.rest.now (omega arith) c.in_ok-keyword.ensures in rw (e, c.in-Nested.is) c.nested.ensures
