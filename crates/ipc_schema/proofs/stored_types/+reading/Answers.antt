use Rattle.std.proofs.Common.{◌≡◌, ◌++◌, length, map, take, drop, ap, sym, ◌∙◌, arith}
use Rattle.nest_memory.specs.TypeOf.{field_trees, field_of}
use Rattle.ipc_schema.specs.StoredTypes.{read_field}
use Rattle.ipc_schema.proofs.StoredFields.{over_all, each_is_read, trees_are_read}
use Rattle.ipc_schema.proofs.stored_types.+reading.Goals as goal

pub fields_read-returns : goal.fields_read-returns
fields_read-returns t c =
    let ys = c.args.fields.items in
    let xs = c.loop-field.field-items in
    let long : length xs ≡ length ys = c.loop-field.auto.field-items ∙ ap length c.deref_mut-field-items.ensures.value in
    let len : length ys ≡ c.args.fields.len = sym c.args.fields.ok.0 in
    let all = over_all c.args.fields.len xs ys (long ∙ len) len in
    let each = ap (map field_of) all ∙ each_is_read xs ys long (λ k d less. c.loop-field.invariant.1 k d (omega (arith, less, c.loop-field.auto.field-items, c.loop-field-test.false)) less) in
    record { each = each; tree = ap field_trees each ∙ trees_are_read (map field_of ys) }
