use Rattle.std.proofs.Common.{◌≡◌, ◌*◌, Ok, Err, ap, sym, subst, ◌∙◌, rules, arith}
use Rattle.std.proofs.lemmas.Result.{err_from_is_err_and}
use Rattle.nest_memory.specs.TypeOf.{type_of, field_of, field_list_of}
use Rattle.nest_memory.specs.declared.datatypes.DataType.{the_lemmas}
use Rattle.nest_model.specs.NullKinds.{type_weight, field_weight, fields_weight, field-weight}
use Rattle.ipc_arrays.specs.BufferCounts.{children_skipped}
use Rattle.ipc_arrays.proofs.Fields.{lighter}
use Rattle.ipc_arrays.proofs.Skipping.{flat_so, extension_so, list_so, large_list_so, map_so, fixed_size_list_so, struct_so, children_so, child_next, child_fails, children_fail, children_start, child_goes_on, child_ends, children_done}
use Rattle.ipc_arrays.proofs.buffer_counts.+skip.Goals as goal

pub skip_array-returns-then-is_flat : goal.skip_array-returns-then-is_flat
skip_array-returns-then-is_flat t c =
    flat_so (λ s. s.now) c.skip_buffers.result c.args.buffers.now (type_of c.args.data_type.now) c.flat_buffer_count.result (sym c.is_flat.ensures ∙ c.if-is_flat.true) c.flat_buffer_count.ensures c.skip_buffers.ensures

pub skip_array-returns-in-Extension : goal.skip_array-returns-in-Extension
skip_array-returns-in-Extension t c =
    extension_so (λ s. s.now) c.skip_array.result c.args.buffers.now (type_of c.args.data_type.now) c.skip_array.ensures (search (rules, the_lemmas))

pub skip_array-returns-in-List : goal.skip_array-returns-in-List
skip_array-returns-in-List t c =
    list_so (λ s. s.now) c.skip_child.result c.args.buffers.now (type_of c.args.data_type.now) c.skip_child.ensures (search (rules, the_lemmas))

pub skip_array-returns-in-LargeList : goal.skip_array-returns-in-LargeList
skip_array-returns-in-LargeList t c =
    large_list_so (λ s. s.now) c.skip_child-in-LargeList.result c.args.buffers.now (type_of c.args.data_type.now) c.skip_child-in-LargeList.ensures (search (rules, the_lemmas))

pub skip_child-returns-in_err-rest : goal.skip_child-returns-in_err-rest
skip_child-returns-in_err-rest t c =
    let p = err_from_is_err_and c.from_residual.result c.from_residual.ensures.1 in
    rw (p.1, p.2) (child_fails c.args.own (field_of c.args.field.now) c.args.buffers.now c.in_err-rest.field-0.0 c.in_err-rest.ensures)

pub skip_child-returns : goal.skip_child-returns
skip_child-returns t c =
    child_next (λ s. s.now) c.skip_array.result c.args.buffers.now c.args.own (field_of c.args.field.now) (type_of c.data_type.result.now) c.in_ok-rest.rest.now c.data_type.ensures c.in_ok-rest.ensures c.skip_array.ensures

pub skip_child-skip_array-requires : goal.skip_child-skip_array-requires
skip_child-skip_array-requires t c =
    let f = field_of c.args.field.now in
    let w : type_weight (type_of c.data_type.result.now) ≡ field_weight f = ap type_weight c.data_type.ensures ∙ field-weight f in
    (omega (arith, w), tt)

pub skip_children-skip_child-requires : goal.skip_children-skip_child-requires
skip_children-skip_child-requires t c =
    let same : c.deref-field-items.result.now ≡ c.args.fields.now.items = search rules in
    let l = lighter c.deref-field-items.result.now c.loop-field.field-index c.field-item.result c.loop-field-test.true c.field-item.is in
    (omega (arith, l, ap (λ fs. fields_weight (field_list_of fs)) same), tt)

pub skip_array-returns-in-Map : goal.skip_array-returns-in-Map
skip_array-returns-in-Map t c =
    map_so (λ s. s.now) c.skip_child-in-Map.result c.args.buffers.now (type_of c.args.data_type.now) c.skip_child-in-Map.ensures (search (rules, the_lemmas))

pub skip_array-returns-in-FixedSizeList : goal.skip_array-returns-in-FixedSizeList
skip_array-returns-in-FixedSizeList t c =
    fixed_size_list_so (λ s. s.now) c.skip_child-in-FixedSizeList.result c.args.buffers.now (type_of c.args.data_type.now) c.skip_child-in-FixedSizeList.ensures (search (rules, the_lemmas))

pub skip_array-returns-in-Struct : goal.skip_array-returns-in-Struct
skip_array-returns-in-Struct t c =
    struct_so (λ s. s.now) c.skip_children.result c.args.buffers.now (type_of c.args.data_type.now) c.skip_children.ensures (search (rules, the_lemmas))

pub skip_array-returns-in-Union : goal.skip_array-returns-in-Union
skip_array-returns-in-Union t c =
    children_so (λ s. s.now) c.skip_children-in-Union.result c.args.buffers.now (type_of c.args.data_type.now) c.union_buffer_count.result _ (search (rules, the_lemmas)) c.skip_children-in-Union.ensures

pub skip_children-returns-in_err-rest : goal.skip_children-returns-in_err-rest
skip_children-returns-in_err-rest t c =
    let p = err_from_is_err_and c.from_residual.result c.from_residual.ensures.1 in
    rw (p.1, p.2) (children_fail c.args.own (field_list_of c.args.fields.now.items) c.args.buffers.now c.in_err-rest.field-0.0 c.in_err-rest.ensures)

pub skip_children-loop-field-init : goal.skip_children-loop-field-init
skip_children-loop-field-init t c = children_start c.args.own (field_list_of c.deref-field-items.result.now) c.args.buffers.now c.in_ok-rest.rest.now c.in_ok-rest.ensures

pub skip_children-returns-in-Err : goal.skip_children-returns-in-Err
skip_children-returns-in-Err t c =
    let same : c.deref-field-items.result.now ≡ c.args.fields.now.items = search rules in
    let total = children_skipped c.args.own (field_list_of c.deref-field-items.result.now) c.args.buffers.now in
    subst (λ fs. children_skipped c.args.own (field_list_of fs) c.args.buffers.now ≡ Err c.in-Err.error) same
    (child_ends c.deref-field-items.result.now c.loop-field.field-index c.loop-field.rest.now total c.field-item.result c.in-Err.error c.loop-field-test.true c.field-item.is c.in-Err.ensures c.loop-field.invariant)

pub skip_children-loop-field-preserved : goal.skip_children-loop-field-preserved
skip_children-loop-field-preserved t c =
    let total = children_skipped c.args.own (field_list_of c.deref-field-items.result.now) c.args.buffers.now in
    child_goes_on c.deref-field-items.result.now c.loop-field.field-index c.loop-field.rest.now total c.field-item.result c.in-Ok.tail.now c.loop-field-test.true c.field-item.is c.in-Ok.ensures c.loop-field.invariant

pub skip_children-returns : goal.skip_children-returns
skip_children-returns t c =
    let same : c.deref-field-items.result.now ≡ c.args.fields.now.items = search rules in
    let total = children_skipped c.args.own (field_list_of c.deref-field-items.result.now) c.args.buffers.now in
    subst (λ fs. children_skipped c.args.own (field_list_of fs) c.args.buffers.now ≡ Ok c.loop-field.rest.now) same
    (children_done c.deref-field-items.result.now c.loop-field.field-index c.loop-field.rest.now total c.loop-field-test.false c.loop-field.invariant)
