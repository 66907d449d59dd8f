use Rattle.std.proofs.Common.{◌≡◌, ◌*◌, Ok, refl, ap, sym, subst, ◌∙◌, rules, arith}
use Rattle.std.specs.Prelude.{option_map}
use Rattle.std.proofs.lemmas.Result.{err_from_is_err_and}
use Rattle.ipc_flatbuf.specs.ReadResults.{ReturnsOrRunsOut, FailsOrRunsOut}
use Rattle.nest_memory.specs.Physical.{physical_type}
use Rattle.nest_memory.specs.TypeOf.{type_of, field_of, field_list_of}
use Rattle.nest_memory.specs.declared.datatypes.DataType.{the_lemmas}
use Rattle.nest_memory.specs.TypeTree.{count_fields}
use Rattle.nest_model.specs.Fits.{ValidityFits}
use Rattle.nest_array.specs.Seen.{layout_of, layouts_of}
use Rattle.ipc_arrays.specs.Decoding.{rest_of}
use Rattle.ipc_arrays.specs.NestedDecoding.{children_decoding, extension_so, list_so, list_no, large_list_so, large_list_no, fixed_size_list_so, fixed_size_list_no, map_so, map_no, struct_so, struct_no, union_so, union_no}
use Rattle.ipc_arrays.specs.DecodingLaws.{AreDecodedUnionParts, kind_stored}
use Rattle.ipc_arrays.specs.declared.cursor.ExpectedLength.TheVariants.{Exactly, Any}
use Rattle.ipc_arrays.proofs.Nested.{item_known, items_known, parts_known, flat_read, item_goes, item_ends, item_is, sized_list_fits, struct_fits, some_so, union_parts_fit, union_goes, union_unformed, union_without_parts, union_unread, formed_so}
use Rattle.nest_model.specs.NullKinds.{type_weight, field_weight, fields_weight, field-weight}
use Rattle.ipc_arrays.proofs.Fields.{lighter, goes_on, ends, is_done}
use Rattle.ipc_arrays.proofs.+read.Goals as goal

pub list::read_list-list_of_items-requires-clause-kind : goal.list::read_list-list_of_items-requires-clause-kind
list::read_list-list_of_items-requires-clause-kind t c = kind_stored (type_of c.args.data_type.now) ∙ ap physical_type c.requires

pub list::read_list-list_of_items-requires-clause-item : goal.list::read_list-list_of_items-requires-clause-item
list::read_list-list_of_items-requires-clause-item t c =
    let f = field_of c.args.field.now in
    item_is (type_of c.args.data_type.now) f _ (layout_of c.in-Ok.items) c.requires refl (item_known f Any c.args.body.now _ _ c.in-Ok.ensures).0

pub list::read_list-list_of_items-requires-clause-valid : goal.list::read_list-list_of_items-requires-clause-valid
list::read_list-list_of_items-requires-clause-valid t c = subst (ValidityFits c.in_ok-rows.rows.validity) (sym c.in_ok-rows.ensures.slots.0) c.in_ok-rows.ensures.slots.1

pub list::read_large_list-large_list_of_items-requires-clause-kind : goal.list::read_large_list-large_list_of_items-requires-clause-kind
list::read_large_list-large_list_of_items-requires-clause-kind t c = kind_stored (type_of c.args.data_type.now) ∙ ap physical_type c.requires

pub list::read_large_list-large_list_of_items-requires-clause-item : goal.list::read_large_list-large_list_of_items-requires-clause-item
list::read_large_list-large_list_of_items-requires-clause-item t c =
    let f = field_of c.args.field.now in
    item_is (type_of c.args.data_type.now) f _ (layout_of c.in-Ok.items) c.requires refl (item_known f Any c.args.body.now _ _ c.in-Ok.ensures).0

pub list::read_large_list-large_list_of_items-requires-clause-valid : goal.list::read_large_list-large_list_of_items-requires-clause-valid
list::read_large_list-large_list_of_items-requires-clause-valid t c = subst (ValidityFits c.in_ok-rows.rows.validity) (sym c.in_ok-rows.ensures.slots.0) c.in_ok-rows.ensures.slots.1

pub map::read_map-map_of_entries-requires-clause-kind : goal.map::read_map-map_of_entries-requires-clause-kind
map::read_map-map_of_entries-requires-clause-kind t c = kind_stored (type_of c.args.data_type.now) ∙ ap physical_type c.requires

pub map::read_map-map_of_entries-requires-clause-item : goal.map::read_map-map_of_entries-requires-clause-item
map::read_map-map_of_entries-requires-clause-item t c =
    let f = field_of c.args.field.now in
    item_is (type_of c.args.data_type.now) f _ (layout_of c.in-Ok.entries) c.requires refl (item_known f Any c.args.body.now _ _ c.in-Ok.ensures).0

pub map::read_map-map_of_entries-requires-clause-valid : goal.map::read_map-map_of_entries-requires-clause-valid
map::read_map-map_of_entries-requires-clause-valid t c = subst (ValidityFits c.in_ok-rows.rows.validity) (sym c.in_ok-rows.ensures.slots.0) c.in_ok-rows.ensures.slots.1

pub fixed_size_list::read_fixed_size_list-array_of-requires : goal.fixed_size_list::read_fixed_size_list-array_of-requires
fixed_size_list::read_fixed_size_list-array_of-requires t c =
    let f = field_of c.args.field.now in
    let known = item_known f (Exactly (c.args.counts.slots * c.args.size)) c.args.body.now (rest_of c.in_ok-validity.cursor) (layout_of c.in-Ok.items, rest_of c.in-Ok.cursor) c.in-Ok.ensures in
    sized_list_fits (type_of c.args.data_type.now) f c.args.size c.args.counts.slots (layout_of c.in-Ok.items) c.in_ok-validity.validity c.requires (omega (arith, c.if-size-eq0.false)) known.0 known.1 c.in_ok-validity.ensures.fits

pub struct_::read_struct-array_of-requires : goal.struct_::read_struct-array_of-requires
struct_::read_struct-array_of-requires t c =
    let fs = field_list_of c.args.fields.now.items in
    let known = items_known fs (Exactly c.args.counts.slots) c.args.body.now (rest_of c.in_ok-validity.cursor) (layouts_of c.in-Ok.children.items, rest_of c.in-Ok.cursor) c.in-Ok.ensures in
    struct_fits (type_of c.args.data_type.now) fs c.args.counts.slots (layouts_of c.in-Ok.children.items) c.in_ok-validity.validity c.requires (some_so (count_fields fs) c.in_ok-check_has_fields.ensures) known.0 known.1 c.in_ok-validity.ensures.fits

pub union::read_union-union_of_children-requires : goal.union::read_union-union_of_children-requires
union::read_union-union_of_children-requires t c =
    let fs = field_list_of c.args.fields.now.items in
    let ids = option_map (λ v. v.items) c.args.ids.now in
    let are = parts_known c.args.mode ids c.field_count-count.result c.args.counts c.args.body.now (rest_of c.args.cursor) (record { types = c.in_ok-parts.parts.types; offsets = c.in_ok-parts.parts.offsets }, rest_of c.in_ok-parts.cursor) c.in_ok-parts.ensures in
    let known = items_known fs c.child_length.result c.args.body.now (rest_of c.in_ok-parts.cursor) (layouts_of c.in-Ok.children.items, rest_of c.in-Ok.cursor) c.in-Ok.ensures in
    union_parts_fit (type_of c.args.data_type.now) fs ids c.args.mode c.args.counts.slots (record { types = c.in_ok-parts.parts.types; offsets = c.in_ok-parts.parts.offsets }) (layouts_of c.in-Ok.children.items) c.requires
    (formed_so c.field_count-count.result ids fs c.field_count-count.ensures (sym c.in_ok-check_type_ids.ensures.checked))
    (subst (λ n. AreDecodedUnionParts c.args.mode ids n c.args.counts.slots (record { types = c.in_ok-parts.parts.types; offsets = c.in_ok-parts.parts.offsets })) c.field_count-count.ensures are)
    known.0 (rw (sym c.child_length.ensures) known.1)

pub union::read_union-returns-in_err-check_type_ids : goal.union::read_union-returns-in_err-check_type_ids
union::read_union-returns-in_err-check_type_ids t c =
    let p = err_from_is_err_and c.from_residual.result c.from_residual.ensures.1 in
    let fs = field_list_of c.args.fields.now.items in
    let ids = option_map (λ v. v.items) c.args.ids.now in
    rw (p.1, p.2) (λ known. union_unformed (type_of c.args.data_type.now) fs ids c.args.mode c.args.counts c.args.body.now (rest_of c.args.cursor) c.field_count-count.result c.in_err-check_type_ids.field-0.0 c.field_count-count.ensures (sym c.in_err-check_type_ids.ensures.checked))

pub union::read_union-returns-in_err-parts : goal.union::read_union-returns-in_err-parts
union::read_union-returns-in_err-parts t c =
    let p = err_from_is_err_and c.from_residual-in_err-parts.result c.from_residual-in_err-parts.ensures.1 in
    let fs = field_list_of c.args.fields.now.items in
    let ids = option_map (λ v. v.items) c.args.ids.now in
    rw (p.1, p.2) (λ known. union_without_parts (type_of c.args.data_type.now) fs ids c.args.mode c.args.counts c.args.body.now (rest_of c.args.cursor) c.field_count-count.result c.in_err-parts.field-0.0 c.field_count-count.ensures (sym c.in_ok-check_type_ids.ensures.checked) (c.in_err-parts.ensures known))

pub union::read_union-returns-in-Err : goal.union::read_union-returns-in-Err
union::read_union-returns-in-Err t c = λ known.
    let fs = field_list_of c.args.fields.now.items in
    let ids = option_map (λ v. v.items) c.args.ids.now in
    union_unread (type_of c.args.data_type.now) fs ids c.args.mode c.args.counts c.args.body.now (rest_of c.args.cursor) c.field_count-count.result (record { types = c.in_ok-parts.parts.types; offsets = c.in_ok-parts.parts.offsets }, rest_of c.in_ok-parts.cursor) c.in-Err.error c.field_count-count.ensures (sym c.in_ok-check_type_ids.ensures.checked) c.in_ok-parts.ensures
    (rw (sym c.child_length.ensures) (c.in-Err.ensures known))

pub union::read_union-returns-in-Ok : goal.union::read_union-returns-in-Ok
union::read_union-returns-in-Ok t c =
    let fs = field_list_of c.args.fields.now.items in
    let ids = option_map (λ v. v.items) c.args.ids.now in
    subst (λ z. ReturnsOrRunsOut (λ x. (x.0, rest_of x.1)) c.union_of_children.result z)
    (union_goes (type_of c.args.data_type.now) fs ids c.args.mode c.args.counts c.args.body.now (rest_of c.args.cursor) c.field_count-count.result (record { types = c.in_ok-parts.parts.types; offsets = c.in_ok-parts.parts.offsets }, rest_of c.in_ok-parts.cursor) (layouts_of c.in-Ok.children.items, rest_of c.in-Ok.cursor) c.requires c.field_count-count.ensures (sym c.in_ok-check_type_ids.ensures.checked) c.in_ok-parts.ensures
    (rw (sym c.child_length.ensures) c.in-Ok.ensures))
    c.union_of_children.ensures

pub reading::read_array-returns-then-is_flat : goal.reading::read_array-returns-then-is_flat
reading::read_array-returns-then-is_flat t c =
    let own = type_of c.args.data_type.now in
    let stored = type_of c.args.stored.now in
    subst (λ z. ReturnsOrRunsOut (λ x. (layout_of x.0, rest_of x.1)) c.read_flat.result z) (flat_read own stored c.args.counts c.args.body.now (rest_of c.args.cursor) c.requires (sym c.is_flat.ensures ∙ c.if-is_flat.true)) c.read_flat.ensures

pub reading::read_item-returns-in_err-counts : goal.reading::read_item-returns-in_err-counts
reading::read_item-returns-in_err-counts t c =
    let p = err_from_is_err_and c.from_residual.result c.from_residual.ensures.1 in
    rw (p.1, p.2) (λ known. item_ends (field_of c.args.field.now) c.args.expected c.args.body.now (rest_of c.args.cursor) c.in_err-counts.field-0.0 c.in_err-counts.ensures)

pub reading::read_item-returns : goal.reading::read_item-returns
reading::read_item-returns t c =
    subst (λ z. ReturnsOrRunsOut (λ x. (layout_of x.0, rest_of x.1)) c.read_array.result z)
    (item_goes (field_of c.args.field.now) (type_of c.data_type-inner.result.now) c.args.expected c.args.body.now (rest_of c.args.cursor) (c.in_ok-counts.counts, rest_of c.in_ok-counts.cursor) c.data_type-inner.ensures c.in_ok-counts.ensures) c.read_array.ensures

pub reading::read_item-read_array-requires : goal.reading::read_item-read_array-requires
reading::read_item-read_array-requires t c =
    let f = field_of c.args.field.now in
    let w : type_weight (type_of c.data_type-inner.result.now) ≡ field_weight f = ap type_weight c.data_type-inner.ensures ∙ field-weight f in
    (omega (arith, w), refl)

pub reading::read_array-returns-in-Ok : goal.reading::read_array-returns-in-Ok
reading::read_array-returns-in-Ok t c =
    let own = type_of c.args.data_type.now in
    list_so own (type_of c.args.stored.now) c.args.counts c.args.body.now (rest_of c.args.cursor) c.in-Ok.ensures (search (rules, the_lemmas))

pub reading::read_array-returns-in-Err : goal.reading::read_array-returns-in-Err
reading::read_array-returns-in-Err t c = λ known.
    let own = type_of c.args.data_type.now in
    list_no own (type_of c.args.stored.now) c.args.counts c.args.body.now (rest_of c.args.cursor) (c.in-Err.ensures known) (search (rules, the_lemmas))

pub reading::read_array-returns-in-Ok-read_large_list : goal.reading::read_array-returns-in-Ok-read_large_list
reading::read_array-returns-in-Ok-read_large_list t c =
    let own = type_of c.args.data_type.now in
    large_list_so own (type_of c.args.stored.now) c.args.counts c.args.body.now (rest_of c.args.cursor) c.in-Ok-read_large_list.ensures (search (rules, the_lemmas))

pub reading::read_array-returns-in-Err-read_large_list : goal.reading::read_array-returns-in-Err-read_large_list
reading::read_array-returns-in-Err-read_large_list t c = λ known.
    let own = type_of c.args.data_type.now in
    large_list_no own (type_of c.args.stored.now) c.args.counts c.args.body.now (rest_of c.args.cursor) (c.in-Err-read_large_list.ensures known) (search (rules, the_lemmas))

pub reading::read_array-returns-in-Ok-read_fixed_size_list : goal.reading::read_array-returns-in-Ok-read_fixed_size_list
reading::read_array-returns-in-Ok-read_fixed_size_list t c =
    let own = type_of c.args.data_type.now in
    fixed_size_list_so own (type_of c.args.stored.now) c.args.counts c.args.body.now (rest_of c.args.cursor) c.in-Ok-read_fixed_size_list.ensures (search (rules, the_lemmas))

pub reading::read_array-returns-in-Err-read_fixed_size_list : goal.reading::read_array-returns-in-Err-read_fixed_size_list
reading::read_array-returns-in-Err-read_fixed_size_list t c = λ known.
    let own = type_of c.args.data_type.now in
    fixed_size_list_no own (type_of c.args.stored.now) c.args.counts c.args.body.now (rest_of c.args.cursor) (c.in-Err-read_fixed_size_list.ensures known) (search (rules, the_lemmas))

pub reading::read_array-returns-in-Ok-read_map : goal.reading::read_array-returns-in-Ok-read_map
reading::read_array-returns-in-Ok-read_map t c =
    let own = type_of c.args.data_type.now in
    map_so own (type_of c.args.stored.now) c.args.counts c.args.body.now (rest_of c.args.cursor) c.in-Ok-read_map.ensures (search (rules, the_lemmas))

pub reading::read_array-returns-in-Err-read_map : goal.reading::read_array-returns-in-Err-read_map
reading::read_array-returns-in-Err-read_map t c = λ known.
    let own = type_of c.args.data_type.now in
    map_no own (type_of c.args.stored.now) c.args.counts c.args.body.now (rest_of c.args.cursor) (c.in-Err-read_map.ensures known) (search (rules, the_lemmas))

pub reading::read_array-returns-in-Ok-read_struct : goal.reading::read_array-returns-in-Ok-read_struct
reading::read_array-returns-in-Ok-read_struct t c =
    let own = type_of c.args.data_type.now in
    struct_so own (type_of c.args.stored.now) c.args.counts c.args.body.now (rest_of c.args.cursor) c.in-Ok-read_struct.ensures (search (rules, the_lemmas))

pub reading::read_array-returns-in-Err-read_struct : goal.reading::read_array-returns-in-Err-read_struct
reading::read_array-returns-in-Err-read_struct t c = λ known.
    let own = type_of c.args.data_type.now in
    struct_no own (type_of c.args.stored.now) c.args.counts c.args.body.now (rest_of c.args.cursor) (c.in-Err-read_struct.ensures known) (search (rules, the_lemmas))

pub reading::read_array-returns-in-Ok-read_union : goal.reading::read_array-returns-in-Ok-read_union
reading::read_array-returns-in-Ok-read_union t c =
    let own = type_of c.args.data_type.now in
    union_so own (type_of c.args.stored.now) c.args.counts c.args.body.now (rest_of c.args.cursor) c.in-Ok-read_union.ensures (search (rules, the_lemmas))

pub reading::read_array-returns-in-Err-read_union : goal.reading::read_array-returns-in-Err-read_union
reading::read_array-returns-in-Err-read_union t c = λ known.
    let own = type_of c.args.data_type.now in
    union_no own (type_of c.args.stored.now) c.args.counts c.args.body.now (rest_of c.args.cursor) (c.in-Err-read_union.ensures known) (search (rules, the_lemmas))

pub reading::read_array-returns-in-Extension : goal.reading::read_array-returns-in-Extension
reading::read_array-returns-in-Extension t c =
    extension_so (type_of c.args.data_type.now) (type_of c.args.stored.now) c.args.counts c.args.body.now (rest_of c.args.cursor) (λ x. (layout_of x.0, rest_of x.1)) c.read_array.result _ c.read_array.ensures (search (rules, the_lemmas))

pub reading::read_items-read_item-requires : goal.reading::read_items-read_item-requires
reading::read_items-read_item-requires t c =
    let same : c.deref-field-items.result.now ≡ c.args.fields.now.items = search rules in
    let l = lighter c.deref-field-items.result.now c.loop-field.field-index c.field-item.result c.loop-field-test.true c.field-item.is in
    (omega (arith, l, ap (λ fs. fields_weight (field_list_of fs)) same), tt)

pub reading::read_items-returns-in-Err : goal.reading::read_items-returns-in-Err
reading::read_items-returns-in-Err t c =
    let same : c.deref-field-items.result.now ≡ c.args.fields.now.items = search rules in
    let total = children_decoding (field_list_of c.deref-field-items.result.now) c.args.expected c.args.body.now (rest_of c.args.cursor) in
    subst (λ fs. FailsOrRunsOut c.in-Err.error (children_decoding (field_list_of fs) c.args.expected c.args.body.now (rest_of c.args.cursor))) same
    (ends c.deref-field-items.result.now c.args.expected c.args.body.now c.loop-field.field-index c.in-Err.error c.loop-field.children.items c.field-item.result (rest_of c.loop-field.rest) total c.loop-field-test.true c.field-item.is c.in-Err.ensures c.loop-field.invariant)

pub reading::read_items-loop-field-preserved : goal.reading::read_items-loop-field-preserved
reading::read_items-loop-field-preserved t c =
    let total = children_decoding (field_list_of c.deref-field-items.result.now) c.args.expected c.args.body.now (rest_of c.args.cursor) in
    goes_on c.deref-field-items.result.now c.args.expected c.args.body.now c.loop-field.field-index c.loop-field.children.items c.push.new.self.items c.in-Ok.child c.field-item.result (rest_of c.loop-field.rest) (rest_of c.in-Ok.tail) total c.loop-field-test.true c.field-item.is c.in_ok-push-in-Ok.ensures.items c.in-Ok.ensures c.loop-field.invariant

pub reading::read_items-returns : goal.reading::read_items-returns
reading::read_items-returns t c =
    let same : c.deref-field-items.result.now ≡ c.args.fields.now.items = search rules in
    let total = children_decoding (field_list_of c.deref-field-items.result.now) c.args.expected c.args.body.now (rest_of c.args.cursor) in
    subst (λ fs. children_decoding (field_list_of fs) c.args.expected c.args.body.now (rest_of c.args.cursor) ≡ Ok (layouts_of c.loop-field.children.items, rest_of c.loop-field.rest)) same
    (is_done c.deref-field-items.result.now c.args.expected c.args.body.now c.loop-field.field-index c.loop-field.children.items (rest_of c.loop-field.rest) total c.loop-field-test.false c.loop-field.invariant)
