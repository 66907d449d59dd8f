use Rattle.std.proofs.Common.{◌≡◌, true, Some, subst, ◌∙◌}
use Rattle.std.specs.Prelude.{option_map}
use Rattle.ipc_arrays.specs.Decoding.{are_type_ids}
use Rattle.ipc_arrays.specs.UnionTypeIds.{MarksTypeIds}
use Rattle.ipc_arrays.proofs.Marks.{marked_mean, places_mean}
use Rattle.ipc_arrays.proofs.union.have_fields.Goals as goal

pub returns-in-Some : goal.returns-in-Some
returns-in-Some c =
    let marks : MarksTypeIds c.type_id_marks.result c.in-Some.ids.items = subst (MarksTypeIds c.type_id_marks.result) c.deref.ensures.value c.type_id_marks.ensures in
    let are : are_type_ids (Some c.in-Some.ids.items) c.args.fields ≡ true = subst (λ o. are_type_ids (option_map (λ v. v.items) o) c.args.fields ≡ true) c.in-Some.is c.requires in
    rw c.in-Some.is (c.are_marked.ensures ∙ marked_mean c.type_id_marks.result c.in-Some.ids.items c.args.fields c.args.kinds.now marks are)

pub returns-in-None : goal.returns-in-None
returns-in-None c = rw c.in-None.is (c.are_field_indices.ensures ∙ places_mean c.args.fields c.args.kinds.now)
