use Rattle.std.proofs.Common.{◌<◌, length, sym, rules, arith}
use Rattle.nest_memory.specs.TypeOf.{field_list_of, count_fields-field_list_of}
use Rattle.nest_memory.specs.TypeTree.{count_fields}
use Rattle.ipc_arrays.proofs.Nested.{some_passes}
use Rattle.ipc_arrays.proofs.struct_.check_has_fields.Goals as goal

pub returns-else-is_empty : goal.returns-else-is_empty
returns-else-is_empty c =
    let some : 0 < length c.args.fields.now.items = search (rules, arith) in
    sym (some_passes (count_fields (field_list_of c.args.fields.now.items)) (omega (arith, some, count_fields-field_list_of c.args.fields.now.items)))
