use Rattle.std.proofs.Common.{◌≡◌, length, sym, ◌∙◌, arith}
use Rattle.nest_memory.specs.TypeOf.{count_fields-field_list_of}
use Rattle.ipc_arrays.proofs.union.field_count.Goals as goal

pub returns : goal.returns
returns c =
    let e : c.len.result ≡ length c.args.fields.now.items = omega arith in
    e ∙ sym (count_fields-field_list_of c.args.fields.now.items)
