use Rattle.std.proofs.Common.{◌≡◌, ◌+◌, ◌*◌, ℕ, ◌∷◌, [], length, length-append, get_or, true, false, refl, ap, sym, ◌∙◌, subst, arith, inr}
use Rattle.std.proofs.lemmas.Result.{err_from_is_err_and}
use Rattle.nest_memory.specs.TypeTree.{size_of}
use Rattle.nest_model.specs.Layout.{layout_type, weight}
use Rattle.nest_model.specs.Meaning.{len}
use Rattle.nest_array.specs.Seen.{layout_of, layouts_of}
use Rattle.nest_take.specs.Indices.{AreAt, AreBelow}
use Rattle.nest_take.specs.Taken.{EachTaken, IsTaken, RefusesTake, pick_indices}
use Rattle.nest_take.proofs.Children.{weight-at, reaches-at, all-taken, refuses-at, one-more, fields-picked, field-refuses}
use Rattle.nest_take.proofs.Picks.{IsDense, dense-made, dense-refuses, field-picks-below}
use Rattle.nest_take.proofs.Looked.{sparse-taken}
use Rattle.nest_take.proofs.Made.{ok-taken}
use Rattle.nest_take.proofs.Nested.{blocks-within, list-taken, map-taken, record-taken, sized-taken}
use Rattle.nest_take.proofs.Refused.{list-parts, list-lighter, list-below, map-parts, map-lighter, map-below, record-parts, record-lighter, record-reaches, sized-parts, sized-lighter, sized-below, sparse-parts, sparse-slots, sparse-below, sparse-refuses, union-lighter}
use Rattle.nest_take.proofs.+take.Goals as goal

pub list::take_lists-take-requires : goal.list::take_lists-take-requires
list::take_lists-take-requires t c =
    let a = c.args.array.now in
    let p = list-parts false a _ _ _ c.known.ensures.kind c.offsets-2.ensures c.values.ensures c.validity.ensures in
    let w = list-lighter false a _ _ _ p in
    (omega (arith, w), list-below false a _ _ _ c.args.indices.now _ c.known.ensures.fits p c.requires (c.deref.ensures.value ∙ c.in_ok-rows.ensures.items))

pub list::take_lists-lists_of-requires : goal.list::take_lists-lists_of-requires
list::take_lists-lists_of-requires t c =
    let a = c.args.array.now in
    let p = list-parts false a _ _ _ c.known.ensures.kind c.offsets-2.ensures c.values.ensures c.validity.ensures in
    (list-taken false a _ _ _ _ _ _ _ c.args.indices.now _ c.known.ensures.fits p c.requires c.data_type.ensures c.in_ok-rows.ensures.offsets (c.known-3.ensures.some, c.known-3.ensures.rising) c.in_ok-rows.ensures.validity (c.deref.ensures.value ∙ c.in_ok-rows.ensures.items) c.in-Ok.ensures.ok).0

pub list::take_lists-returns-in-Ok-clause-ok : goal.list::take_lists-returns-in-Ok-clause-ok
list::take_lists-returns-in-Ok-clause-ok t c =
    let a = c.args.array.now in
    let p = list-parts false a _ _ _ c.known.ensures.kind c.offsets-2.ensures c.values.ensures c.validity.ensures in
    ok-taken c.lists_of.result _ a c.args.indices.now c.lists_of.ensures.ok
    (list-taken false a _ _ _ _ _ _ _ c.args.indices.now _ c.known.ensures.fits p c.requires c.data_type.ensures c.in_ok-rows.ensures.offsets (c.known-3.ensures.some, c.known-3.ensures.rising) c.in_ok-rows.ensures.validity (c.deref.ensures.value ∙ c.in_ok-rows.ensures.items) c.in-Ok.ensures.ok).1

pub list::take_large_lists-take-requires : goal.list::take_large_lists-take-requires
list::take_large_lists-take-requires t c =
    let a = c.args.array.now in
    let p = list-parts true a _ _ _ c.known.ensures.kind c.offsets-2.ensures c.values.ensures c.validity.ensures in
    let w = list-lighter true a _ _ _ p in
    (omega (arith, w), list-below true a _ _ _ c.args.indices.now _ c.known.ensures.fits p c.requires (c.deref.ensures.value ∙ c.in_ok-rows.ensures.items))

pub list::take_large_lists-large_lists_of-requires : goal.list::take_large_lists-large_lists_of-requires
list::take_large_lists-large_lists_of-requires t c =
    let a = c.args.array.now in
    let p = list-parts true a _ _ _ c.known.ensures.kind c.offsets-2.ensures c.values.ensures c.validity.ensures in
    (list-taken true a _ _ _ _ _ _ _ c.args.indices.now _ c.known.ensures.fits p c.requires c.data_type.ensures c.in_ok-rows.ensures.offsets (c.known-3.ensures.some, c.known-3.ensures.rising) c.in_ok-rows.ensures.validity (c.deref.ensures.value ∙ c.in_ok-rows.ensures.items) c.in-Ok.ensures.ok).0

pub list::take_large_lists-returns-in-Ok-clause-ok : goal.list::take_large_lists-returns-in-Ok-clause-ok
list::take_large_lists-returns-in-Ok-clause-ok t c =
    let a = c.args.array.now in
    let p = list-parts true a _ _ _ c.known.ensures.kind c.offsets-2.ensures c.values.ensures c.validity.ensures in
    ok-taken c.large_lists_of.result _ a c.args.indices.now c.large_lists_of.ensures.ok
    (list-taken true a _ _ _ _ _ _ _ c.args.indices.now _ c.known.ensures.fits p c.requires c.data_type.ensures c.in_ok-rows.ensures.offsets (c.known-3.ensures.some, c.known-3.ensures.rising) c.in_ok-rows.ensures.validity (c.deref.ensures.value ∙ c.in_ok-rows.ensures.items) c.in-Ok.ensures.ok).1

pub map::take_maps-take-requires : goal.map::take_maps-take-requires
map::take_maps-take-requires t c =
    let a = c.args.array.now in
    let p = map-parts a _ _ _ c.known.ensures.kind c.offsets-2.ensures c.field.ensures c.validity.ensures in
    let w = map-lighter a _ _ _ p in
    (omega (arith, w), map-below a _ _ _ c.args.indices.now _ c.known.ensures.fits p c.requires (c.deref.ensures.value ∙ c.in_ok-rows.ensures.items))

pub map::take_maps-maps_of-requires : goal.map::take_maps-maps_of-requires
map::take_maps-maps_of-requires t c =
    let a = c.args.array.now in
    let p = map-parts a _ _ _ c.known.ensures.kind c.offsets-2.ensures c.field.ensures c.validity.ensures in
    (map-taken a _ _ _ _ _ _ _ c.args.indices.now _ c.known.ensures.fits p c.requires c.data_type.ensures c.in_ok-rows.ensures.offsets (c.known-3.ensures.some, c.known-3.ensures.rising) c.in_ok-rows.ensures.validity (c.deref.ensures.value ∙ c.in_ok-rows.ensures.items) c.in-Ok.ensures.ok).0

pub map::take_maps-returns-in-Ok-clause-ok : goal.map::take_maps-returns-in-Ok-clause-ok
map::take_maps-returns-in-Ok-clause-ok t c =
    let a = c.args.array.now in
    let p = map-parts a _ _ _ c.known.ensures.kind c.offsets-2.ensures c.field.ensures c.validity.ensures in
    ok-taken c.maps_of.result _ a c.args.indices.now c.maps_of.ensures.ok
    (map-taken a _ _ _ _ _ _ _ c.args.indices.now _ c.known.ensures.fits p c.requires c.data_type.ensures c.in_ok-rows.ensures.offsets (c.known-3.ensures.some, c.known-3.ensures.rising) c.in_ok-rows.ensures.validity (c.deref.ensures.value ∙ c.in_ok-rows.ensures.items) c.in-Ok.ensures.ok).1

pub fixed_size_list::take_lists-take-requires : goal.fixed_size_list::take_lists-take-requires
fixed_size_list::take_lists-take-requires t c =
    let a = c.args.array.now in
    let p = sized-parts a _ _ c.known.ensures.kind c.values-children.ensures c.validity.ensures in
    let w = sized-lighter a _ _ p in
    (omega (arith, w), sized-below a _ _ c.size-size.result c.args.indices.now _ p c.size-size.ensures.size c.requires (c.deref.ensures.value ∙ c.in_ok-items.ensures.ok))

pub fixed_size_list::take_lists-array_of-requires : goal.fixed_size_list::take_lists-array_of-requires
fixed_size_list::take_lists-array_of-requires t c =
    let a = c.args.array.now in
    let p = sized-parts a _ _ c.known.ensures.kind c.values-children.ensures c.validity.ensures in
    (sized-taken a _ c.size-size.result _ _ _ _ c.args.indices.now _ c.known.ensures.fits p c.requires c.data_type.ensures c.size-size.ensures.size c.in_ok-validity.ensures.ok (c.deref.ensures.value ∙ c.in_ok-items.ensures.ok) c.in-Ok.ensures.ok).0

pub fixed_size_list::take_lists-returns-in-Ok-clause-ok : goal.fixed_size_list::take_lists-returns-in-Ok-clause-ok
fixed_size_list::take_lists-returns-in-Ok-clause-ok t c =
    let a = c.args.array.now in
    let p = sized-parts a _ _ c.known.ensures.kind c.values-children.ensures c.validity.ensures in
    ok-taken c.array_of.result _ a c.args.indices.now c.array_of.ensures.ok
    (sized-taken a _ c.size-size.result _ _ _ _ c.args.indices.now _ c.known.ensures.fits p c.requires c.data_type.ensures c.size-size.ensures.size c.in_ok-validity.ensures.ok (c.deref.ensures.value ∙ c.in_ok-items.ensures.ok) c.in-Ok.ensures.ok).1

pub struct_::take_records-take_all-requires : goal.struct_::take_records-take_all-requires
struct_::take_records-take_all-requires t c =
    let a = c.args.array.now in
    let p = record-parts a _ _ c.known.ensures.kind c.values.ensures c.validity.ensures in
    let w = record-lighter a _ _ p in
    (omega (arith, w), record-reaches a _ _ c.args.indices.now c.known.ensures.fits p c.requires)

pub struct_::take_records-array_of-requires : goal.struct_::take_records-array_of-requires
struct_::take_records-array_of-requires t c =
    let a = c.args.array.now in
    let p = record-parts a _ _ c.known.ensures.kind c.values.ensures c.validity.ensures in
    (record-taken a _ _ _ _ _ c.args.indices.now c.known.ensures.fits p c.requires c.data_type.ensures c.in_ok-validity.ensures.ok c.in-Ok.ensures.ok).0

pub struct_::take_records-returns-in-Ok-clause-ok : goal.struct_::take_records-returns-in-Ok-clause-ok
struct_::take_records-returns-in-Ok-clause-ok t c =
    let a = c.args.array.now in
    let p = record-parts a _ _ c.known.ensures.kind c.values.ensures c.validity.ensures in
    ok-taken c.array_of.result _ a c.args.indices.now c.array_of.ensures.ok
    (record-taken a _ _ _ _ _ c.args.indices.now c.known.ensures.fits p c.requires c.data_type.ensures c.in_ok-validity.ensures.ok c.in-Ok.ensures.ok).1

pub union::take_sparse-take_all-requires : goal.union::take_sparse-take_all-requires
union::take_sparse-take_all-requires t c =
    let a = c.args.array.now in
    let p = sparse-parts a _ _ c.known.ensures.kind c.requires.sparse c.types.ensures c.fields.ensures in
    let w = union-lighter a _ c.known.ensures.kind c.fields.ensures in
    (omega (arith, w), sparse-below a _ _ c.args.indices.now _ c.known.ensures.fits p c.requires.within (sparse-slots _ _ _ _ c.requires.sparse (c.deref.ensures.value ∙ c.in_ok-slots.ensures.ok)))

pub union::take_sparse-array_of-requires : goal.union::take_sparse-array_of-requires
union::take_sparse-array_of-requires t c =
    let a = c.args.array.now in
    let x = subst (λ z. AreAt z c.args.indices.now c.in_ok-types.types) (c.as_slice.ensures ∙ c.types.ensures) c.in_ok-types.ensures.ok in
    let y = subst (λ z. EachTaken z c.deref.result.now (layouts_of c.in-Ok.fields.items)) c.fields.ensures c.in-Ok.ensures.ok in
    (sparse-taken a _ _ _ _ _ _ _ c.args.indices.now _ c.known.ensures.fits c.known.ensures.kind c.requires.sparse c.requires.within c.data_type.ensures x (c.deref.ensures.value ∙ c.in_ok-slots.ensures.ok) y).0

pub union::take_sparse-returns-in-Ok-clause-ok : goal.union::take_sparse-returns-in-Ok-clause-ok
union::take_sparse-returns-in-Ok-clause-ok t c =
    let a = c.args.array.now in
    let x = subst (λ z. AreAt z c.args.indices.now c.in_ok-types.types) (c.as_slice.ensures ∙ c.types.ensures) c.in_ok-types.ensures.ok in
    let y = subst (λ z. EachTaken z c.deref.result.now (layouts_of c.in-Ok.fields.items)) c.fields.ensures c.in-Ok.ensures.ok in
    ok-taken c.array_of.result _ a c.args.indices.now c.array_of.ensures.ok
    (sparse-taken a _ _ _ _ _ _ _ c.args.indices.now _ c.known.ensures.fits c.known.ensures.kind c.requires.sparse c.requires.within c.data_type.ensures x (c.deref.ensures.value ∙ c.in_ok-slots.ensures.ok) y).1

pub union::take_sparse-returns-in-Err-clause-err : goal.union::take_sparse-returns-in-Err-clause-err
union::take_sparse-returns-in-Err-clause-err t c =
    let a = c.args.array.now in
    let p = sparse-parts a _ _ c.known.ensures.kind c.requires.sparse c.types.ensures c.fields.ensures in
    sparse-refuses a _ _ c.args.indices.now _ _ p (sparse-slots _ _ _ _ c.requires.sparse (c.deref.ensures.value ∙ c.in_ok-slots.ensures.ok)) c.in-Err.ensures.err

pub struct_::take_all-take-requires : goal.struct_::take_all-take-requires
struct_::take_all-take-requires t c =
    let e = ap (λ a. weight (layout_of a)) c.index-children-i.is in
    let w = weight-at c.args.children.now c.loop-i.i c.index-children-i.result (omega arith) in
    let r = reaches-at c.args.children.now c.args.indices.now c.loop-i.i c.index-children-i.result c.requires (omega arith) in
    (omega arith, subst (λ z. AreBelow c.args.indices.now (len (layout_of z))) (sym c.index-children-i.is) r)

pub struct_::take_all-returns-clause-ok : goal.struct_::take_all-returns-clause-ok
struct_::take_all-returns-clause-ok t c =
    let l : length c.loop-i.taken.items ≡ length c.args.children.now = omega (arith, c.loop-i.invariant.same_length) in
    all-taken c.args.children.now c.loop-i.taken.items c.args.indices.now l (λ k d h. c.loop-i.invariant.done k d (omega arith))

pub fixed_size_list::take_lists-blocks-requires : goal.fixed_size_list::take_lists-blocks-requires
fixed_size_list::take_lists-blocks-requires t c = λ k d h.
    let a = c.args.array.now in
    let p = sized-parts a _ _ c.known.ensures.kind c.values-children.ensures refl in
    let b = subst (λ z. AreBelow c.args.indices.now (len z)) p c.requires in
    let w = blocks-within (size_of (layout_type a)) (len (layout_of c.values-children.result.now)) c.args.indices.now b k d h in
    let e = ap (λ s. get_or c.args.indices.now k d * s + s) c.size-size.ensures.size in
    omega (arith, c.len.ensures)

pub struct_::take_all-returns-in-Err-clause-err : goal.struct_::take_all-returns-in-Err-clause-err
struct_::take_all-returns-in-Err-clause-err t c =
    refuses-at c.args.children.now c.args.indices.now c.loop-i.i c.index-children-i.result c.in-Err.error c.index-children-i.is (omega arith) c.in-Err.ensures.err

pub struct_::take_all-loop-i-preserved : goal.struct_::take_all-loop-i-preserved
struct_::take_all-loop-i-preserved t c =
    let e = c.push_reserved.ensures.items in
    let i = c.loop-i.invariant in
    record {
      same_length = omega (arith, c.push_reserved.ensures.len, ap length e, i.same_length, length-append c.loop-i.taken.items (c.in-Ok.child ∷ []));
      room = omega (arith, c.push_reserved.ensures.capacity, i.room);
      done = rw e (one-more (λ k. c.args.indices.now) c.args.children.now c.loop-i.taken.items c.loop-i.i c.index-children-i.result c.in-Ok.child i.same_length c.index-children-i.is (omega arith) i.done c.in-Ok.ensures.ok);
    }

pub union::take_dense-returns-in_err-count_picks-clause-err : goal.union::take_dense-returns-in_err-count_picks-clause-err
union::take_dense-returns-in_err-count_picks-clause-err t c =
    let a = c.args.array.now in
    let d : IsDense a = record { kind = c.known.ensures.kind; dense = c.requires.dense } in
    let p = err_from_is_err_and c.from_residual.result c.from_residual.ensures.1 in
    rw p.1 (subst (λ z. RefusesTake z a c.args.indices.now) (sym p.2) (dense-refuses a c.args.indices.now _ d (inr c.in_err-count_picks.ensures.err)))

pub union::take_dense-array_of-requires : goal.union::take_dense-array_of-requires
union::take_dense-array_of-requires t c =
    let a = c.args.array.now in
    let d : IsDense a = record { kind = c.known.ensures.kind; dense = c.requires.dense } in
    let x = subst (λ z. AreAt z c.args.indices.now c.in_ok-types.types) (c.as_slice.ensures ∙ c.types.ensures) c.in_ok-types.ensures.ok in
    (dense-made a _ _ _ _ c.args.indices.now c.known.ensures.fits d c.requires.within c.data_type.ensures x c.in_ok-offsets.ensures.ok c.in-Ok.ensures.ok).0

pub union::take_dense-returns-in-Ok-clause-ok : goal.union::take_dense-returns-in-Ok-clause-ok
union::take_dense-returns-in-Ok-clause-ok t c =
    let a = c.args.array.now in
    let d : IsDense a = record { kind = c.known.ensures.kind; dense = c.requires.dense } in
    let x = subst (λ z. AreAt z c.args.indices.now c.in_ok-types.types) (c.as_slice.ensures ∙ c.types.ensures) c.in_ok-types.ensures.ok in
    ok-taken c.array_of.result _ a c.args.indices.now c.array_of.ensures.ok
    (dense-made a _ _ _ _ c.args.indices.now c.known.ensures.fits d c.requires.within c.data_type.ensures x c.in_ok-offsets.ensures.ok c.in-Ok.ensures.ok).1

pub union::take_dense-returns-in-Err-clause-err : goal.union::take_dense-returns-in-Err-clause-err
union::take_dense-returns-in-Err-clause-err t c =
    let a = c.args.array.now in
    let d : IsDense a = record { kind = c.known.ensures.kind; dense = c.requires.dense } in
    dense-refuses a c.args.indices.now c.in-Err.error d c.in-Err.ensures.err

pub union::take_fields-take-requires : goal.union::take_fields-take-requires
union::take_fields-take-requires t c =
    let a = c.args.array.now in
    let xs = c.fields-fields.result.now in
    let d : IsDense a = record { kind = c.known.ensures.kind; dense = c.requires.dense } in
    let e = ap (λ x. weight (layout_of x)) c.index-fields-f.is in
    let w = weight-at xs c.loop-f.f c.index-fields-f.result (omega arith) in
    let v = union-lighter a _ c.known.ensures.kind c.fields-fields.ensures in
    (omega (arith, w, v), field-picks-below a xs c.loop-f.f c.index-fields-f.result c.args.indices.now _ c.known.ensures.fits d c.fields-fields.ensures c.index-fields-f.is (omega arith) c.requires.within (c.deref.ensures.value ∙ c.in_ok-picks.ensures.ok))

pub union::take_fields-returns-in-Err-clause-err : goal.union::take_fields-returns-in-Err-clause-err
union::take_fields-returns-in-Err-clause-err t c =
    let P = λ (f : ℕ). pick_indices c.args.array.now f c.args.indices.now in
    field-refuses P c.fields-fields.result.now _ c.loop-f.f c.index-fields-f.result _ c.in-Err.error c.fields-fields.ensures c.index-fields-f.is (omega arith) (c.deref.ensures.value ∙ c.in_ok-picks.ensures.ok) c.in-Err.ensures.err

pub union::take_fields-loop-f-preserved : goal.union::take_fields-loop-f-preserved
union::take_fields-loop-f-preserved t c =
    let e = c.push_reserved.ensures.items in
    let i = c.loop-f.invariant in
    let x = c.index-fields-f.result in
    let y = c.in-Ok.field in
    let P = λ (f : ℕ). pick_indices c.args.array.now f c.args.indices.now in
    let g = subst (λ z. IsTaken (layout_of x) z (layout_of y)) (c.deref.ensures.value ∙ c.in_ok-picks.ensures.ok) c.in-Ok.ensures.ok in
    record {
      same_length = omega (arith, c.push_reserved.ensures.len, ap length e, i.same_length, length-append c.loop-f.taken.items (y ∷ []));
      room = omega (arith, c.push_reserved.ensures.capacity, i.room);
      done = rw e (one-more P c.fields-fields.result.now c.loop-f.taken.items c.loop-f.f x y i.same_length c.index-fields-f.is (omega arith) i.done g);
    }

pub union::take_fields-returns-clause-ok : goal.union::take_fields-returns-clause-ok
union::take_fields-returns-clause-ok t c =
    let P = λ (f : ℕ). pick_indices c.args.array.now f c.args.indices.now in
    let xs = c.fields-fields.result.now in
    let ys = c.loop-f.taken.items in
    let l : length ys ≡ length xs = omega (arith, c.loop-f.invariant.same_length) in
    fields-picked P xs ys _ c.fields-fields.ensures l (λ k d h. c.loop-f.invariant.done k d (omega arith))
