use Rattle.std.proofs.Common.{rules, ◌≡◌, ap, sym, ◌∙◌, nat_eq, length}
use Rattle.nest_memory.specs.TypeOf.{type_of, field_list_of, are_two-field_list_of}
use Rattle.nest_memory.specs.TypeTree.{struct, is_pair}
use Rattle.nest_memory.specs.declared.datatypes.DataType.{the_lemmas}
use Rattle.ipc_schema.proofs.type_shapes.is_pair.Goals as goal

pub returns-in-Struct : goal.returns-in-Struct
returns-in-Struct c =
    let e : c.len.result ≡ length c.in-Struct.fields.items = search rules in
    let f : type_of c.args.data_type.now ≡ struct (field_list_of c.in-Struct.fields.items) = search (rules, the_lemmas) in
    ap (λ n. nat_eq n 2) e ∙ sym (are_two-field_list_of c.in-Struct.fields.items) ∙ sym (ap is_pair f)
