use Rattle.std.proofs.Common.{rules, ◌≡◌, ap, sym, ◌∙◌}
use Rattle.nest_memory.specs.TypeOf.{type_of, field_list_of, count_fields-field_list_of}
use Rattle.nest_memory.specs.TypeTree.{count_fields, fields_of}
use Rattle.nest_memory.specs.declared.datatypes.DataType.{the_lemmas}
use Rattle.nest_memory.proofs.datatypes.DataType.+fields.Goals as goal

pub returns-in-Struct-clause-count : goal.returns-in-Struct-clause-count
returns-in-Struct-clause-count t c =
    let e : field_list_of c.as_slice.result.now ≡ fields_of (type_of c.args.self.now) = search (rules, the_lemmas) in
    sym (count_fields-field_list_of c.as_slice.result.now) ∙ ap count_fields e
