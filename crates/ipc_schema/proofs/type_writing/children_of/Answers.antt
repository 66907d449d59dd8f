use Rattle.std.proofs.Common.{rules, ◌≡◌, sym, ◌∙◌, map}
use Rattle.nest_memory.specs.TypeOf.{type_of, field_of, field_list_of}
use Rattle.nest_memory.specs.declared.datatypes.DataType.{the_lemmas}
use Rattle.ipc_schema.specs.Types.{field_list, spec_children_of}
use Rattle.ipc_schema.specs.TypeLaws.{list_back}
use Rattle.ipc_schema.proofs.type_writing.children_of.Goals as goal

pub returns-in-Struct : goal.returns-in-Struct
returns-in-Struct c =
    let e : c.deref.result.now ≡ c.in-Struct.fields.items = search rules in
    let f : spec_children_of (type_of c.args.data_type.now) ≡ field_list (field_list_of c.in-Struct.fields.items) = search (rules, the_lemmas) in
    rw e (sym (list_back (map field_of c.in-Struct.fields.items)) ∙ sym f)

pub returns-in-Union : goal.returns-in-Union
returns-in-Union c =
    let e : c.deref-in-Union.result.now ≡ c.in-Union.fields.items = search rules in
    let f : spec_children_of (type_of c.args.data_type.now) ≡ field_list (field_list_of c.in-Union.fields.items) = search (rules, the_lemmas) in
    rw e (sym (list_back (map field_of c.in-Union.fields.items)) ∙ sym f)
