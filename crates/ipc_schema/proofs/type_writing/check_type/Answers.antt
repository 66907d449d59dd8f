use Rattle.std.proofs.Common.{rules, ◌≡◌, ℕ, Bool, List, Option, length, eqb, ap, sym, ◌∙◌}
use Rattle.std.specs.Prelude.{ℤ, not}
use Rattle.std.specs.Option.{option_map}
use Rattle.nest_memory.specs.TypeOf.{type_of, field_list_of, count_fields-field_list_of}
use Rattle.nest_memory.specs.TypeTree.{count_fields}
use Rattle.nest_memory.specs.declared.datatypes.DataType.{the_lemmas}
use Rattle.ipc_flatbuf.specs.declared.error.IpcWriteError.TheVariants as reasons
use Rattle.ipc_schema.specs.Types.{spec_are_union_ids}
use Rattle.ipc_schema.specs.WriteChecks.{spec_require, spec_check_type}
use Rattle.ipc_schema.proofs.type_writing.check_type.Goals as goal

pub returns-in-Struct : goal.returns-in-Struct
returns-in-Struct c =
    let e : c.len.result ≡ length c.in-Struct.fields.items = search rules in
    let f : spec_check_type (type_of c.args.data_type.now) ≡ spec_require (not (eqb (count_fields (field_list_of c.in-Struct.fields.items)) 0)) reasons.Type = search (rules, the_lemmas) in
    c.require-in-Struct.ensures ∙ ap (λ (n : ℕ). spec_require (not (eqb n 0)) reasons.Type) (e ∙ sym (count_fields-field_list_of c.in-Struct.fields.items)) ∙ sym f

pub returns-in-Union : goal.returns-in-Union
returns-in-Union c =
    let ids : Option (List ℤ) = option_map (λ v. v.items) c.in-Union.ids in
    let e : c.len-in-Union.result ≡ length c.in-Union.fields.items = search rules in
    let f : spec_check_type (type_of c.args.data_type.now) ≡ spec_require (spec_are_union_ids ids (count_fields (field_list_of c.in-Union.fields.items))) reasons.Type = search (rules, the_lemmas) in
    c.require-in-Union.ensures
    ∙ ap (λ (b : Bool). spec_require b reasons.Type) c.are_union_ids.ensures
    ∙ ap (λ (n : ℕ). spec_require (spec_are_union_ids ids n) reasons.Type) (e ∙ sym (count_fields-field_list_of c.in-Union.fields.items))
    ∙ sym f
