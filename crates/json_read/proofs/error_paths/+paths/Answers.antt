use Rattle.std.specs.Prelude.{IfOk, bytes_eq, option_map, string_bytes, if◌then◌else◌}
use Rattle.std.proofs.Common.{rules, ◌≡◌, ◌∙◌, ◌<◌, [], Some, None, true, false, length, ap, sym, subst, arith}
use Rattle.std.specs.List.{list_any}
use Rattle.json.specs.Value.{members_view, value_view}
use Rattle.json.proofs.Trees.{view-Object}
use Rattle.json_read.specs.DistinctNames.{FieldHasDistinctFieldNames}
use Rattle.json_read.specs.ErrorPaths.{IsPath, first_member_path, first_missing_path, first_path, names_of, path_in_object, spec_field_path, spec_member_path}
use Rattle.json_read.specs.StructMembers.{field_name_at_index}
use Rattle.json_read.proofs.PathLaws.{named-before, path-at, path-nowhere}
use Rattle.json_read.proofs.RequiredLaws.{distinct-at}
use Rattle.json_write.specs.TypedSlots.{LacksField}
use Rattle.nest_memory.specs.TypeOf.{field_list_of, field_of}
use Rattle.nest_memory.specs.declared.datatypes.DataType.{the_lemmas}
use Rattle.nest_memory.specs.declared.datatypes.field.Field.{the_lemmas as field_lemmas}
use Rattle.json_read.proofs.error_paths.+paths.Goals as goal

pub later_path-returns-then-has_member : goal.later_path-returns-then-has_member
later_path-returns-then-has_member t c =
    let k = c.args.member.now.0.now in
    let j = value_view c.args.member.now.1 in
    let p = spec_member_path c.args.nulls (field_list_of c.args.fields.now.items) in
    let named = sym (named-before k c.args.before.now) ∙ sym c.has_member.ensures ∙ c.if-has_member.true in
    ap Some c.in_ok-path.ensures.ok ∙ sym (ap (λ b. if b then Some k else p k j) named)

pub later_path-returns : goal.later_path-returns
later_path-returns t c =
    let k = c.args.member.now.0.now in
    let j = value_view c.args.member.now.1 in
    let p = spec_member_path c.args.nulls (field_list_of c.args.fields.now.items) in
    let new = sym (named-before k c.args.before.now) ∙ sym c.has_member.ensures ∙ c.if-has_member.false in
    subst (λ o. IfOk c.member_path.result (IsPath o)) (sym (ap (λ b. if b then Some k else p k j) new)) c.member_path.ensures

pub member_path-field_path-requires : goal.member_path-field_path-requires
member_path-field_path-requires t c =
    let fields = c.args.fields.now.items in
    let x = c.index.result.now in
    let bound : c.in-Some.i < length fields = omega (arith, c.in-Some.ensures.0, ap length c.deref.ensures.value) in
    (first_of (search (rules, the_lemmas), search (rules, field_lemmas), search (rules, the_lemmas, field_lemmas), grind (arith, the_lemmas)), subst FieldHasDistinctFieldNames (ap field_of (sym c.index.ensures)) (distinct-at fields c.in-Some.i x c.requires.1.1.1 bound))

pub member_path-returns-in-Some : goal.member_path-returns-in-Some
member_path-returns-in-Some t c =
    let fields = c.args.fields.now.items in
    let j = value_view c.args.value.now in
    let x = c.index.result.now in
    let bound : c.in-Some.i < length fields = omega (arith, c.in-Some.ensures.0, ap length c.deref.ensures.value) in
    let found = subst (λ fs. field_name_at_index (field_list_of fs) c.in-Some.i ≡ Some c.args.name.now) c.deref.ensures.value c.in-Some.ensures.1 in
    let same = ap (λ f. spec_field_path c.args.nulls (field_of f) j) c.index.ensures ∙ sym (path-at c.args.nulls fields c.args.name.now j c.in-Some.i x c.requires.1.1.0 bound found) in
    subst (λ o. IfOk c.field_path.result (IsPath o)) same c.field_path.ensures

pub member_path-returns-in_ok-path-in-None : goal.member_path-returns-in_ok-path-in-None
member_path-returns-in_ok-path-in-None t c =
    let fields = c.args.fields.now.items in
    let lacks = subst (λ fs. LacksField c.args.name.now (field_list_of fs)) c.deref.ensures.value c.in-None.ensures in
    ap Some c.in_ok-path-in-None.ensures.ok ∙ sym (path-nowhere c.args.nulls (field_list_of fields) c.args.name.now (value_view c.args.value.now) lacks)

pub object_path-returns-in-None : goal.object_path-returns-in-None
object_path-returns-in-None t c =
    let fs = field_list_of c.args.fields.now.items in
    let p = spec_member_path c.args.nulls fs in
    let ms = c.in-Object.members.items in
    let seen = ap value_view c.in-Object.is ∙ view-Object c.in-Object.members in
    let none = ap (λ vs. first_member_path p [] (members_view vs)) (sym c.deref.ensures.value) ∙ sym c.in_ok-path-in-Object.ensures ∙ ap (option_map string_bytes) c.in-None.is in
    let missing = subst (λ vs. IfOk c.missing_path.result (IsPath (first_missing_path fs (members_view vs)))) c.deref-in-None.ensures.value c.missing_path.ensures in
    let all = ap (path_in_object p fs) seen ∙ ap (λ o. first_path o (first_missing_path fs (members_view ms))) none in
    subst (λ o. IfOk c.missing_path.result (IsPath o)) (sym all) missing
