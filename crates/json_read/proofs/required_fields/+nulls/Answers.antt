use Rattle.std.proofs.Common.{rules, ◌≡◌, ◌∙◌, ◌<◌, Some, length, ap, sym, subst, arith}
use Rattle.std.specs.Prelude.{◌||◌, false}
use Rattle.json.specs.Value.{members_view, value_view}
use Rattle.json.proofs.Trees.{view-Object}
use Rattle.json_read.specs.DistinctNames.{FieldHasDistinctFieldNames}
use Rattle.json_read.specs.RequiredFields.{any_member, is_any_missing, is_unexpected_member, is_unexpected_null, object_has}
use Rattle.json_read.specs.StructMembers.{field_name_at_index}
use Rattle.json_read.proofs.RequiredLaws.{distinct-at, null-at, null-nowhere}
use Rattle.json_write.specs.TypedSlots.{LacksField}
use Rattle.nest_memory.specs.TypeOf.{field_list_of, field_of}
use Rattle.nest_memory.specs.declared.datatypes.DataType.{the_lemmas}
use Rattle.nest_memory.specs.declared.datatypes.field.Field.{the_lemmas as field_lemmas}
use Rattle.json_read.proofs.required_fields.+nulls.Goals as goal

pub named_has_null-field_has_null-requires : goal.named_has_null-field_has_null-requires
named_has_null-field_has_null-requires t c =
    let fields = c.args.fields.now.items in
    let x = c.index.result.now in
    let bound : c.in-Some.i < length fields = omega (arith, c.in-Some.ensures.0, ap length c.deref.ensures.value) in
    (first_of (search (rules, the_lemmas), search (rules, field_lemmas), search (rules, the_lemmas, field_lemmas), grind (arith, the_lemmas)), subst FieldHasDistinctFieldNames (ap field_of (sym c.index.ensures)) (distinct-at fields c.in-Some.i x c.requires.1.1.1 bound))

pub named_has_null-returns-in-Some : goal.named_has_null-returns-in-Some
named_has_null-returns-in-Some t c =
    let fields = c.args.fields.now.items in
    let j = value_view c.args.value.now in
    let x = c.index.result.now in
    let bound : c.in-Some.i < length fields = omega (arith, c.in-Some.ensures.0, ap length c.deref.ensures.value) in
    let found = subst (λ fs. field_name_at_index (field_list_of fs) c.in-Some.i ≡ Some c.args.name.now) c.deref.ensures.value c.in-Some.ensures.1 in
    c.field_has_null.ensures ∙ ap (λ f. is_unexpected_null (field_of f) j) c.index.ensures ∙ sym (null-at fields c.args.name.now j c.in-Some.i x c.requires.1.1.0 bound found)

pub named_has_null-returns-in-None : goal.named_has_null-returns-in-None
named_has_null-returns-in-None t c =
    let fields = c.args.fields.now.items in
    let lacks = subst (λ fs. LacksField c.args.name.now (field_list_of fs)) c.deref.ensures.value c.in-None.ensures in
    sym (null-nowhere (field_list_of fields) c.args.name.now (value_view c.args.value.now) lacks)

pub object_has_null-returns-else-member_has_null : goal.object_has_null-returns-else-member_has_null
object_has_null-returns-else-member_has_null t c =
    let fs = field_list_of c.args.fields.now.items in
    let p = is_unexpected_member fs in
    let ms = c.in-Object.members.items in
    let seen = ap value_view c.in-Object.is ∙ view-Object c.in-Object.members in
    let none = ap (λ vs. any_member p (members_view vs)) (sym c.deref.ensures.value) ∙ sym c.member_has_null.ensures ∙ c.if-member_has_null.false in
    c.lacks_required.ensures
    ∙ ap (λ vs. is_any_missing fs (members_view vs)) c.deref-else-member_has_null.ensures.value
    ∙ ap (λ b. b || is_any_missing fs (members_view ms)) (sym none)
    ∙ sym (ap (object_has p fs) seen)
