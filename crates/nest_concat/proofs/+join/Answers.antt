use Rattle.std.proofs.Common.{◌≡◌, ◌∷◌, [], length, length-append, true, false, inl, inr, refl, ap, sym, ◌∙◌, subst, arith}
use Rattle.std.specs.Prelude.{map}
use Rattle.nest_memory.specs.Physical.{physical_type}
use Rattle.nest_model.specs.Accessors.{child_at, children_of}
use Rattle.nest_model.specs.Layout.{layout_type, weight, weight_all}
use Rattle.nest_concat.specs.Windows.{field_window}
use Rattle.nest_array.specs.Seen.{layout_of, layouts_of}
use Rattle.nest_memory.specs.declared.datatypes.physical_type.PhysicalType.TheVariants as physical
use Rattle.nest_model.specs.Accessors.{key_type_of}
use Rattle.nest_model.specs.BuilderTree.{key_count}
use Rattle.nest_array.specs.Keys.{keyed_by}
use Rattle.nest_array.specs.SeenKeys.{keys_layout}
use Rattle.std.proofs.lemmas.Result.{err_from_is_err_and}
use Rattle.nest_concat.specs.Lookups.{AreJoinedKeys, KeysPass}
use Rattle.nest_concat.specs.Joined.{AreArrays, AreWithin, IsJoined, RefusesEach, RefusesJoin, RefusesKeys, first_array}
use Rattle.nest_concat.specs.Laid.{laid, laid_each, laid_keys}
use Rattle.nest_concat.specs.Limits.{PassesLimits, SomePasses}
use Rattle.nest_concat.proofs.Children.{count-of, each-joined, each-more, one-more, weight-at}
use Rattle.nest_concat.proofs.Picked.{facts-of}
use Rattle.nest_concat.proofs.Made.{list-kind, map-kind, of-kind, ok-joined, record-kind, sized-kind}
use Rattle.nest_concat.proofs.Keyed.{are-keyed, keyed-kind, keyed-lighter, keys-refuse, moved-joined, others-not, values-children, values-refuse, width_of}
use Rattle.nest_concat.proofs.Nested.{list-children, list-joined, list-lighter, list-refuses, map-children, map-joined, map-lighter, map-refuses, sized-children, sized-joined, sized-lighter, sized-refuses}
use Rattle.nest_concat.proofs.Records.{field-first, field-joined, field-refuses, record-joined, record-lighter, record-refuses}
use Rattle.nest_concat.proofs.Unions.{field-children, field-count, union-joined, union-kind, union-lighter, union-refuses}
use Rattle.nest_concat.proofs.LaidParts.{child-laid, child-room, each-laid, each-room, keys-room, length-room, list-laid, list-room, map-laid, map-room, moved-laid, moved-room, offsets-room, ok-always, ok-laid, record-laid, record-room, sized-laid, sized-room, union-laid, union-room}
use Rattle.nest_concat.proofs.+join.Goals as goal

pub list::join_lists-join-requires : goal.list::join_lists-join-requires
list::join_lists-join-requires t c =
    let a = c.args.array.now in
    let ws = c.args.windows.now in
    let p = list-kind false a _ _ _ _ c.known.ensures.fits c.known.ensures.kind in
    let e = c.deref.ensures.value ∙ c.in_ok-items.ensures.ok in
    let r = list-children false (layout_type a) ws c.deref.result.now c.requires.within p c.requires.some e (subst AreArrays (sym c.deref.ensures.value) c.in_ok-items.ensures.fit) in
    let w = list-lighter false a _ _ _ _ ws c.deref.result.now c.known.ensures.kind (c.requires.first, c.requires.some) e in
    (omega (arith, w), r)

pub list::join_lists-lists_of-requires : goal.list::join_lists-lists_of-requires
list::join_lists-lists_of-requires t c =
    let a = c.args.array.now in
    let ws = c.args.windows.now in
    let p = list-kind false a _ _ _ _ c.known.ensures.fits c.known.ensures.kind in
    let e = c.deref.ensures.value ∙ c.in_ok-items.ensures.ok in
    (list-joined false (layout_type a) _ ws c.deref.result.now _ _ _ c.requires.within p c.requires.some e c.data_type.ensures c.in_ok-offsets.ensures.ok (c.known-2.ensures.some, c.known-2.ensures.rising) c.in_ok-validity.ensures.ok c.in-Ok.ensures.ok).0

pub list::join_lists-returns-in-Ok-clause-ok : goal.list::join_lists-returns-in-Ok-clause-ok
list::join_lists-returns-in-Ok-clause-ok t c =
    let a = c.args.array.now in
    let ws = c.args.windows.now in
    let p = list-kind false a _ _ _ _ c.known.ensures.fits c.known.ensures.kind in
    let e = c.deref.ensures.value ∙ c.in_ok-items.ensures.ok in
    ok-joined c.lists_of.result (layout_type a) _ ws c.lists_of.ensures.ok (list-joined false (layout_type a) _ ws c.deref.result.now _ _ _ c.requires.within p c.requires.some e c.data_type.ensures c.in_ok-offsets.ensures.ok (c.known-2.ensures.some, c.known-2.ensures.rising) c.in_ok-validity.ensures.ok c.in-Ok.ensures.ok).1

pub list::join_lists-returns-in-Err-clause-err : goal.list::join_lists-returns-in-Err-clause-err
list::join_lists-returns-in-Err-clause-err t c =
    let e = c.deref.ensures.value ∙ c.in_ok-items.ensures.ok in
    list-refuses false c.in-Err.error c.args.array.now _ _ _ _ c.args.windows.now c.deref.result.now c.known.ensures.kind (c.requires.first, c.requires.some) e c.in-Err.ensures.err

pub list::join_large_lists-join-requires : goal.list::join_large_lists-join-requires
list::join_large_lists-join-requires t c =
    let a = c.args.array.now in
    let ws = c.args.windows.now in
    let p = list-kind true a _ _ _ _ c.known.ensures.fits c.known.ensures.kind in
    let e = c.deref.ensures.value ∙ c.in_ok-items.ensures.ok in
    let r = list-children true (layout_type a) ws c.deref.result.now c.requires.within p c.requires.some e (subst AreArrays (sym c.deref.ensures.value) c.in_ok-items.ensures.fit) in
    let w = list-lighter true a _ _ _ _ ws c.deref.result.now c.known.ensures.kind (c.requires.first, c.requires.some) e in
    (omega (arith, w), r)

pub list::join_large_lists-large_lists_of-requires : goal.list::join_large_lists-large_lists_of-requires
list::join_large_lists-large_lists_of-requires t c =
    let a = c.args.array.now in
    let ws = c.args.windows.now in
    let p = list-kind true a _ _ _ _ c.known.ensures.fits c.known.ensures.kind in
    let e = c.deref.ensures.value ∙ c.in_ok-items.ensures.ok in
    (list-joined true (layout_type a) _ ws c.deref.result.now _ _ _ c.requires.within p c.requires.some e c.data_type.ensures c.in_ok-offsets.ensures.ok (c.known-2.ensures.some, c.known-2.ensures.rising) c.in_ok-validity.ensures.ok c.in-Ok.ensures.ok).0

pub list::join_large_lists-returns-in-Ok-clause-ok : goal.list::join_large_lists-returns-in-Ok-clause-ok
list::join_large_lists-returns-in-Ok-clause-ok t c =
    let a = c.args.array.now in
    let ws = c.args.windows.now in
    let p = list-kind true a _ _ _ _ c.known.ensures.fits c.known.ensures.kind in
    let e = c.deref.ensures.value ∙ c.in_ok-items.ensures.ok in
    ok-joined c.large_lists_of.result (layout_type a) _ ws c.large_lists_of.ensures.ok (list-joined true (layout_type a) _ ws c.deref.result.now _ _ _ c.requires.within p c.requires.some e c.data_type.ensures c.in_ok-offsets.ensures.ok (c.known-2.ensures.some, c.known-2.ensures.rising) c.in_ok-validity.ensures.ok c.in-Ok.ensures.ok).1

pub list::join_large_lists-returns-in-Err-clause-err : goal.list::join_large_lists-returns-in-Err-clause-err
list::join_large_lists-returns-in-Err-clause-err t c =
    let e = c.deref.ensures.value ∙ c.in_ok-items.ensures.ok in
    list-refuses true c.in-Err.error c.args.array.now _ _ _ _ c.args.windows.now c.deref.result.now c.known.ensures.kind (c.requires.first, c.requires.some) e c.in-Err.ensures.err

pub map::join_maps-join-requires : goal.map::join_maps-join-requires
map::join_maps-join-requires t c =
    let a = c.args.array.now in
    let ws = c.args.windows.now in
    let p = map-kind a _ _ _ _ c.known.ensures.fits c.known.ensures.kind in
    let e = c.deref.ensures.value ∙ c.in_ok-items.ensures.ok in
    let r = map-children (layout_type a) ws c.deref.result.now c.requires.within p c.requires.some e (subst AreArrays (sym c.deref.ensures.value) c.in_ok-items.ensures.fit) in
    let w = map-lighter a _ _ _ _ ws c.deref.result.now c.known.ensures.kind (c.requires.first, c.requires.some) e in
    (omega (arith, w), r)

pub map::join_maps-maps_of-requires : goal.map::join_maps-maps_of-requires
map::join_maps-maps_of-requires t c =
    let a = c.args.array.now in
    let ws = c.args.windows.now in
    let p = map-kind a _ _ _ _ c.known.ensures.fits c.known.ensures.kind in
    let e = c.deref.ensures.value ∙ c.in_ok-items.ensures.ok in
    (map-joined (layout_type a) _ ws c.deref.result.now _ _ _ c.requires.within p c.requires.some e c.data_type.ensures c.in_ok-offsets.ensures.ok (c.known-2.ensures.some, c.known-2.ensures.rising) c.in_ok-validity.ensures.ok c.in-Ok.ensures.ok).0

pub map::join_maps-returns-in-Ok-clause-ok : goal.map::join_maps-returns-in-Ok-clause-ok
map::join_maps-returns-in-Ok-clause-ok t c =
    let a = c.args.array.now in
    let ws = c.args.windows.now in
    let p = map-kind a _ _ _ _ c.known.ensures.fits c.known.ensures.kind in
    let e = c.deref.ensures.value ∙ c.in_ok-items.ensures.ok in
    ok-joined c.maps_of.result (layout_type a) _ ws c.maps_of.ensures.ok (map-joined (layout_type a) _ ws c.deref.result.now _ _ _ c.requires.within p c.requires.some e c.data_type.ensures c.in_ok-offsets.ensures.ok (c.known-2.ensures.some, c.known-2.ensures.rising) c.in_ok-validity.ensures.ok c.in-Ok.ensures.ok).1

pub map::join_maps-returns-in-Err-clause-err : goal.map::join_maps-returns-in-Err-clause-err
map::join_maps-returns-in-Err-clause-err t c =
    let e = c.deref.ensures.value ∙ c.in_ok-items.ensures.ok in
    map-refuses c.in-Err.error c.args.array.now _ _ _ _ c.args.windows.now c.deref.result.now c.known.ensures.kind (c.requires.first, c.requires.some) e c.in-Err.ensures.err

pub fixed_size_list::join_lists-join-requires : goal.fixed_size_list::join_lists-join-requires
fixed_size_list::join_lists-join-requires t c =
    let a = c.args.array.now in
    let ws = c.args.windows.now in
    let p = sized-kind a _ _ _ c.known.ensures.fits c.known.ensures.kind in
    let e = c.deref.ensures.value ∙ c.in_ok-items.ensures.ok in
    let r = sized-children (layout_type a) _ ws c.deref.result.now c.requires.within p refl c.requires.some e (subst AreArrays (sym c.deref.ensures.value) c.in_ok-items.ensures.fit) in
    let w = sized-lighter a _ _ _ _ ws c.deref.result.now c.known.ensures.kind (c.requires.first, c.requires.some) e in
    (omega (arith, w), r)

pub fixed_size_list::join_lists-array_of-requires : goal.fixed_size_list::join_lists-array_of-requires
fixed_size_list::join_lists-array_of-requires t c =
    let a = c.args.array.now in
    let ws = c.args.windows.now in
    let p = sized-kind a _ _ _ c.known.ensures.fits c.known.ensures.kind in
    let e = c.deref.ensures.value ∙ c.in_ok-items.ensures.ok in
    (sized-joined (layout_type a) _ _ ws c.deref.result.now _ _ c.requires.within p refl c.requires.some e c.data_type.ensures c.in_ok-validity.ensures.ok c.in-Ok.ensures.ok).0

pub fixed_size_list::join_lists-returns-in-Ok-clause-ok : goal.fixed_size_list::join_lists-returns-in-Ok-clause-ok
fixed_size_list::join_lists-returns-in-Ok-clause-ok t c =
    let a = c.args.array.now in
    let ws = c.args.windows.now in
    let p = sized-kind a _ _ _ c.known.ensures.fits c.known.ensures.kind in
    let e = c.deref.ensures.value ∙ c.in_ok-items.ensures.ok in
    ok-joined c.array_of.result (layout_type a) _ ws c.array_of.ensures.ok (sized-joined (layout_type a) _ _ ws c.deref.result.now _ _ c.requires.within p refl c.requires.some e c.data_type.ensures c.in_ok-validity.ensures.ok c.in-Ok.ensures.ok).1

pub fixed_size_list::join_lists-returns-in-Err-clause-err : goal.fixed_size_list::join_lists-returns-in-Err-clause-err
fixed_size_list::join_lists-returns-in-Err-clause-err t c =
    let e = c.deref.ensures.value ∙ c.in_ok-items.ensures.ok in
    sized-refuses c.in-Err.error c.args.array.now _ _ _ _ c.args.windows.now c.deref.result.now c.known.ensures.kind refl (c.requires.first, c.requires.some) e c.in-Err.ensures.err

pub dictionary::join_keyed-have_values-requires : goal.dictionary::join_keyed-have_values-requires
dictionary::join_keyed-have_values-requires t c =
    let a = c.args.array.now in
    let ws = c.args.windows.now in
    are-keyed (width_of a) ws (of-kind (layout_type a) _ ws c.requires.within (keyed-kind a _ _ _ c.known.ensures.fits c.known.ensures.kind))

pub dictionary::join_keyed-whole_values-requires : goal.dictionary::join_keyed-whole_values-requires
dictionary::join_keyed-whole_values-requires t c =
    let a = c.args.array.now in
    let ws = c.args.windows.now in
    are-keyed (width_of a) ws (of-kind (layout_type a) _ ws c.requires.within (keyed-kind a _ _ _ c.known.ensures.fits c.known.ensures.kind))

pub dictionary::join_keyed-joined-requires-clause-kind : goal.dictionary::join_keyed-joined-requires-clause-kind
dictionary::join_keyed-joined-requires-clause-kind t c =
    let a = c.args.array.now in
    let p = keyed-kind a _ _ _ c.known.ensures.fits c.known.ensures.kind ∙ ap (λ z. physical.Dictionary (keyed_by (key_type_of z))) (sym c.keys.ensures) in
    of-kind (layout_type a) _ c.args.windows.now c.requires.within p

pub dictionary::join_keyed-returns-in_err-keys-clause-err : goal.dictionary::join_keyed-returns-in_err-keys-clause-err
dictionary::join_keyed-returns-in_err-keys-clause-err t c =
    let a = c.args.array.now in
    let ws = c.args.windows.now in
    let p = err_from_is_err_and c.from_residual-in_err-keys.result c.from_residual-in_err-keys.ensures.1 in
    let n = others-not _ _ c.args.windows.now c.values.ensures c.if-have_values.ensures in
    let r = subst (λ z. RefusesKeys true c.in_err-keys.field-0.0 (key_count (keyed_by (key_type_of z))) ws) c.keys.ensures c.in_err-keys.ensures.err in
    rw p.1 (subst (λ e. RefusesJoin e a ws) (sym p.2) (keys-refuse c.in_err-keys.field-0.0 a _ _ ws c.known.ensures.fits c.known.ensures.kind n r))

pub dictionary::join_keyed-join-requires : goal.dictionary::join_keyed-join-requires
dictionary::join_keyed-join-requires t c =
    let a = c.args.array.now in
    let ws = c.args.windows.now in
    let p = keyed-kind a _ _ _ c.known.ensures.fits c.known.ensures.kind in
    let e = c.deref.ensures.value ∙ c.in_ok-values.ensures.ok in
    let r = values-children (width_of a) (layout_type a) ws c.deref.result.now c.requires.within p c.requires.some e (subst AreArrays (sym c.deref.ensures.value) c.in_ok-values.ensures.fit) in
    let w = keyed-lighter a _ _ _ ws c.deref.result.now c.known.ensures.kind (c.requires.first, c.requires.some) e in
    (omega (arith, w), r)

pub dictionary::join_keyed-array_of-requires : goal.dictionary::join_keyed-array_of-requires
dictionary::join_keyed-array_of-requires t c =
    let a = c.args.array.now in
    let ws = c.args.windows.now in
    let e = c.deref.ensures.value ∙ c.in_ok-values.ensures.ok in
    let g = subst (λ z. AreJoinedKeys true z ws (keys_layout c.in_ok-keys.keys)) c.keys.ensures c.in_ok-keys.ensures.ok in
    (moved-joined a _ _ _ _ _ ws c.deref.result.now c.known.ensures.fits c.known.ensures.kind (c.requires.first, c.requires.some) c.requires.within e c.data_type.ensures g c.in-Ok.ensures.ok).0

pub dictionary::join_keyed-returns-in-Ok-clause-ok : goal.dictionary::join_keyed-returns-in-Ok-clause-ok
dictionary::join_keyed-returns-in-Ok-clause-ok t c =
    let a = c.args.array.now in
    let ws = c.args.windows.now in
    let e = c.deref.ensures.value ∙ c.in_ok-values.ensures.ok in
    let g = subst (λ z. AreJoinedKeys true z ws (keys_layout c.in_ok-keys.keys)) c.keys.ensures c.in_ok-keys.ensures.ok in
    ok-joined c.array_of.result (layout_type a) _ ws c.array_of.ensures.ok
    (moved-joined a _ _ _ _ _ ws c.deref.result.now c.known.ensures.fits c.known.ensures.kind (c.requires.first, c.requires.some) c.requires.within e c.data_type.ensures g c.in-Ok.ensures.ok).1

pub dictionary::join_keyed-returns-clause-err : goal.dictionary::join_keyed-returns-clause-err
dictionary::join_keyed-returns-clause-err t c =
    let e = c.deref.ensures.value ∙ c.in_ok-values.ensures.ok in
    let n = others-not _ _ c.args.windows.now c.values.ensures c.if-have_values.ensures in
    values-refuse c.in-Err.error c.args.array.now _ _ _ c.args.windows.now c.deref.result.now c.known.ensures.kind (c.requires.first, c.requires.some) e n c.in-Err.ensures.err

pub list::join_lists-count-requires : goal.list::join_lists-count-requires
list::join_lists-count-requires t c = let a = c.args.array.now in record { kind = of-kind (layout_type a) _ c.args.windows.now c.requires.within (list-kind false a _ _ _ _ c.known.ensures.fits c.known.ensures.kind) }

pub list::join_lists-offsets-requires-clause-kind : goal.list::join_lists-offsets-requires-clause-kind
list::join_lists-offsets-requires-clause-kind t c = let a = c.args.array.now in of-kind (layout_type a) _ c.args.windows.now c.requires.within (list-kind false a _ _ _ _ c.known.ensures.fits c.known.ensures.kind)

pub list::join_lists-items-requires : goal.list::join_lists-items-requires
list::join_lists-items-requires t c = let a = c.args.array.now in record { kind = of-kind (layout_type a) _ c.args.windows.now c.requires.within (list-kind false a _ _ _ _ c.known.ensures.fits c.known.ensures.kind) }

pub list::join_large_lists-count-requires : goal.list::join_large_lists-count-requires
list::join_large_lists-count-requires t c = let a = c.args.array.now in record { kind = of-kind (layout_type a) _ c.args.windows.now c.requires.within (list-kind true a _ _ _ _ c.known.ensures.fits c.known.ensures.kind) }

pub list::join_large_lists-offsets-requires-clause-kind : goal.list::join_large_lists-offsets-requires-clause-kind
list::join_large_lists-offsets-requires-clause-kind t c = let a = c.args.array.now in of-kind (layout_type a) _ c.args.windows.now c.requires.within (list-kind true a _ _ _ _ c.known.ensures.fits c.known.ensures.kind)

pub list::join_large_lists-items-requires : goal.list::join_large_lists-items-requires
list::join_large_lists-items-requires t c = let a = c.args.array.now in record { kind = of-kind (layout_type a) _ c.args.windows.now c.requires.within (list-kind true a _ _ _ _ c.known.ensures.fits c.known.ensures.kind) }

pub map::join_maps-count-requires : goal.map::join_maps-count-requires
map::join_maps-count-requires t c = let a = c.args.array.now in record { kind = of-kind (layout_type a) _ c.args.windows.now c.requires.within (map-kind a _ _ _ _ c.known.ensures.fits c.known.ensures.kind) }

pub map::join_maps-offsets-requires-clause-kind : goal.map::join_maps-offsets-requires-clause-kind
map::join_maps-offsets-requires-clause-kind t c = let a = c.args.array.now in of-kind (layout_type a) _ c.args.windows.now c.requires.within (map-kind a _ _ _ _ c.known.ensures.fits c.known.ensures.kind)

pub map::join_maps-items-requires : goal.map::join_maps-items-requires
map::join_maps-items-requires t c = let a = c.args.array.now in record { kind = of-kind (layout_type a) _ c.args.windows.now c.requires.within (map-kind a _ _ _ _ c.known.ensures.fits c.known.ensures.kind) }

pub struct_::join_records-join_fields-requires : goal.struct_::join_records-join_fields-requires
struct_::join_records-join_fields-requires t c =
    let a = c.args.array.now in
    let ws = c.args.windows.now in
    let p = record-kind a _ _ _ c.known.ensures.fits c.known.ensures.kind in
    let w = record-lighter a _ _ _ c.known.ensures.kind in
    let m = ap weight_all c.values.ensures in (
      omega (arith, w, m),
      (
        c.requires.some,
        (
          inl (ap (λ z. physical_type (layout_type z)) (sym c.requires.first) ∙ p),
          (subst (λ z. AreWithin (layout_type z) ws) c.requires.first c.requires.within, c.values.ensures ∙ ap children_of c.requires.first),
        ),
      ),
    )

pub struct_::join_records-array_of-requires : goal.struct_::join_records-array_of-requires
struct_::join_records-array_of-requires t c =
    let a = c.args.array.now in
    let ws = c.args.windows.now in
    let p = record-kind a _ _ _ c.known.ensures.fits c.known.ensures.kind in
    (record-joined (layout_type a) _ ws _ _ _ c.requires.within p c.requires.some (c.values.ensures ∙ ap children_of c.requires.first) c.in-Ok.ensures.ok c.data_type.ensures c.in_ok-validity.ensures.ok).0

pub struct_::join_records-returns-in-Ok-clause-ok : goal.struct_::join_records-returns-in-Ok-clause-ok
struct_::join_records-returns-in-Ok-clause-ok t c =
    let a = c.args.array.now in
    let ws = c.args.windows.now in
    let p = record-kind a _ _ _ c.known.ensures.fits c.known.ensures.kind in
    ok-joined c.array_of.result (layout_type a) _ ws c.array_of.ensures.ok
    (record-joined (layout_type a) _ ws _ _ _ c.requires.within p c.requires.some (c.values.ensures ∙ ap children_of c.requires.first) c.in-Ok.ensures.ok c.data_type.ensures c.in_ok-validity.ensures.ok).1

pub struct_::join_records-returns-in-Err-clause-err : goal.struct_::join_records-returns-in-Err-clause-err
struct_::join_records-returns-in-Err-clause-err t c =
    let ws = c.args.windows.now in
    record-refuses c.in-Err.error c.args.array.now _ _ _ ws c.known.ensures.kind (subst (λ z. RefusesEach c.in-Err.error z ws) c.values.ensures c.in-Err.ensures.err)

pub struct_::join_fields-field-requires : goal.struct_::join_fields-field-requires
struct_::join_fields-field-requires t c =
    let ws = c.args.windows.now in
    let n = field-count (layout_type (first_array ws)) _ ws c.requires.within c.requires.kind c.requires.some c.requires.children in
    record { kind = c.requires.kind; within = c.requires.within; field = omega (arith, n, count-of c.args.children.now) }

pub struct_::join_fields-join-requires : goal.struct_::join_fields-join-requires
struct_::join_fields-join-requires t c =
    let ws = c.args.windows.now in
    let cs = layouts_of c.args.children.now in
    let f = c.loop-f.f in
    let cws = c.deref.result.now in
    let e = c.deref.ensures.value ∙ c.in_ok-slots.ensures.ok in
    let n = field-count (layout_type (first_array ws)) cs ws c.requires.within c.requires.kind c.requires.some c.requires.children in
    let l = count-of c.args.children.now in
    let r = field-children (layout_type (first_array ws)) f ws cws c.requires.within c.requires.kind c.requires.some (omega (arith, n, l)) e (subst AreArrays (sym c.deref.ensures.value) c.in_ok-slots.ensures.fit) in
    let w = weight-at cs f (omega (arith, l)) in
    let z = ap weight (field-first f cs ws cws c.requires.children c.requires.some e) in
    (omega (arith, w, z), r)

pub struct_::join_fields-returns-in-Err-clause-err : goal.struct_::join_fields-returns-in-Err-clause-err
struct_::join_fields-returns-in-Err-clause-err t c =
    let e = c.deref.ensures.value ∙ c.in_ok-slots.ensures.ok in
    field-refuses c.in-Err.error c.loop-f.f (layouts_of c.args.children.now) c.args.windows.now c.deref.result.now c.requires.children c.requires.some (omega (arith, count-of c.args.children.now)) e c.in-Err.ensures.err

pub struct_::join_fields-returns-clause-ok : goal.struct_::join_fields-returns-clause-ok
struct_::join_fields-returns-clause-ok t c =
    let l = count-of c.args.children.now in
    each-joined (layouts_of c.args.children.now) c.args.windows.now c.loop-f.joined.items (omega (arith, l, c.loop-f.invariant.same_length)) (λ k d h. c.loop-f.invariant.done k d (omega (arith, l)))

pub struct_::join_fields-loop-f-preserved : goal.struct_::join_fields-loop-f-preserved
struct_::join_fields-loop-f-preserved t c =
    let ws = c.args.windows.now in
    let cs = layouts_of c.args.children.now in
    let e = c.push_reserved.ensures.items in
    let i = c.loop-f.invariant in
    let y = c.in-Ok.child in
    let q = c.deref.ensures.value ∙ c.in_ok-slots.ensures.ok in
    let p = field-first c.loop-f.f cs ws c.deref.result.now c.requires.children c.requires.some q in
    let g = field-joined c.loop-f.f cs ws c.deref.result.now (layout_of y) c.requires.children c.requires.some q c.in-Ok.ensures.ok in
    record {
      same_length = omega (arith, c.push_reserved.ensures.len, ap length e, i.same_length, length-append c.loop-f.joined.items (y ∷ []));
      room = omega (arith, c.push_reserved.ensures.capacity, i.room);
      done = rw e (one-more (λ k z. IsJoined (layout_type (child_at cs k)) (map (field_window k) ws) z) c.loop-f.joined.items c.loop-f.f y i.same_length i.done g);
      laid_so = rw e (one-more (λ k z. z ≡ laid (child_at cs k) (map (field_window k) ws)) c.loop-f.joined.items c.loop-f.f y i.same_length i.laid_so (child-laid (field_window c.loop-f.f) _ _ ws c.deref.result.now p q c.in-Ok.ensures.laid));
      room_so = each-more (λ k. PassesLimits (child_at cs k) (map (field_window k) ws) → ⊥) c.loop-f.f i.room_so (child-room (field_window c.loop-f.f) _ ws c.deref.result.now p q c.in-Ok.ensures.room);
    }

pub union::join_unions-types-requires : goal.union::join_unions-types-requires
union::join_unions-types-requires t c = let a = c.args.array.now in of-kind (layout_type a) _ c.args.windows.now c.requires.within (facts-of a c.known.ensures.fits c.known.ensures.kind).typed

pub union::join_unions-join_fields-requires : goal.union::join_unions-join_fields-requires
union::join_unions-join_fields-requires t c =
    let a = c.args.array.now in
    let ws = c.args.windows.now in
    let p = union-kind a c.known.ensures.fits c.known.ensures.kind in
    let w = union-lighter a _ _ _ _ _ _ c.known.ensures.kind c.fields.ensures in (
      omega (arith, w),
      (
        c.requires.some,
        (
          inr (ap (λ z. physical_type (layout_type z)) (sym c.requires.first) ∙ p),
          (subst (λ z. AreWithin (layout_type z) ws) c.requires.first c.requires.within, c.fields.ensures ∙ ap children_of c.requires.first),
        ),
      ),
    )

pub union::join_unions-array_of-requires : goal.union::join_unions-array_of-requires
union::join_unions-array_of-requires t c =
    let a = c.args.array.now in
    let ws = c.args.windows.now in
    let p = union-kind a c.known.ensures.fits c.known.ensures.kind in
    (union-joined (layout_type a) _ a ws _ _ _ _ c.requires.within p c.requires.some c.requires.first c.fields.ensures c.in-Ok.ensures.ok c.data_type.ensures c.in_ok-types.ensures.ok c.in_ok-offsets.ensures.ok).0

pub union::join_unions-returns-in-Ok-clause-ok : goal.union::join_unions-returns-in-Ok-clause-ok
union::join_unions-returns-in-Ok-clause-ok t c =
    let a = c.args.array.now in
    let ws = c.args.windows.now in
    let p = union-kind a c.known.ensures.fits c.known.ensures.kind in
    ok-joined c.array_of.result (layout_type a) _ ws c.array_of.ensures.ok
    (union-joined (layout_type a) _ a ws _ _ _ _ c.requires.within p c.requires.some c.requires.first c.fields.ensures c.in-Ok.ensures.ok c.data_type.ensures c.in_ok-types.ensures.ok c.in_ok-offsets.ensures.ok).1

pub union::join_unions-returns-in-Err-clause-err : goal.union::join_unions-returns-in-Err-clause-err
union::join_unions-returns-in-Err-clause-err t c =
    union-refuses c.in-Err.error c.args.array.now _ _ _ _ _ _ c.args.windows.now c.known.ensures.kind c.fields.ensures c.in-Err.ensures.err

pub list::join_lists-returns-in-Ok-clause-laid : goal.list::join_lists-returns-in-Ok-clause-laid
list::join_lists-returns-in-Ok-clause-laid t c =
    let a = c.args.array.now in
    let ws = c.args.windows.now in
    let e = c.deref.ensures.value ∙ c.in_ok-items.ensures.ok in
    ok-laid c.lists_of.result _ _ c.lists_of.ensures.ok
    (list-laid false a _ _ _ _ _ _ _ _ ws c.deref.result.now c.known.ensures.kind (c.requires.first, c.requires.some) e c.data_type.ensures c.in_ok-offsets.ensures.ok c.in_ok-validity.ensures.ok c.in-Ok.ensures.laid)

pub list::join_lists-returns-in-Ok-clause-room : goal.list::join_lists-returns-in-Ok-clause-room
list::join_lists-returns-in-Ok-clause-room t c =
    let a = c.args.array.now in
    let ws = c.args.windows.now in
    let e = c.deref.ensures.value ∙ c.in_ok-items.ensures.ok in
    ok-always c.lists_of.result _
    (list-room false a _ _ _ _ ws c.deref.result.now c.known.ensures.kind (c.requires.first, c.requires.some) e (length-room ws _ c.requires.total c.ranges.total.fits) (offsets-room false ws _ 2147483647 c.in_ok-count.ensures.0 c.in_ok-count.ensures.1 refl) c.in-Ok.ensures.room)

pub list::join_large_lists-returns-in-Ok-clause-laid : goal.list::join_large_lists-returns-in-Ok-clause-laid
list::join_large_lists-returns-in-Ok-clause-laid t c =
    let a = c.args.array.now in
    let ws = c.args.windows.now in
    let e = c.deref.ensures.value ∙ c.in_ok-items.ensures.ok in
    ok-laid c.large_lists_of.result _ _ c.large_lists_of.ensures.ok
    (list-laid true a _ _ _ _ _ _ _ _ ws c.deref.result.now c.known.ensures.kind (c.requires.first, c.requires.some) e c.data_type.ensures c.in_ok-offsets.ensures.ok c.in_ok-validity.ensures.ok c.in-Ok.ensures.laid)

pub list::join_large_lists-returns-in-Ok-clause-room : goal.list::join_large_lists-returns-in-Ok-clause-room
list::join_large_lists-returns-in-Ok-clause-room t c =
    let a = c.args.array.now in
    let ws = c.args.windows.now in
    let e = c.deref.ensures.value ∙ c.in_ok-items.ensures.ok in
    ok-always c.large_lists_of.result _
    (list-room true a _ _ _ _ ws c.deref.result.now c.known.ensures.kind (c.requires.first, c.requires.some) e (length-room ws _ c.requires.total c.ranges.total.fits) (offsets-room true ws _ 9223372036854775807 c.in_ok-count.ensures.0 c.in_ok-count.ensures.1 refl) c.in-Ok.ensures.room)

pub map::join_maps-returns-in-Ok-clause-laid : goal.map::join_maps-returns-in-Ok-clause-laid
map::join_maps-returns-in-Ok-clause-laid t c =
    let a = c.args.array.now in
    let ws = c.args.windows.now in
    let e = c.deref.ensures.value ∙ c.in_ok-items.ensures.ok in
    ok-laid c.maps_of.result _ _ c.maps_of.ensures.ok
    (map-laid a _ _ _ _ _ _ _ _ ws c.deref.result.now c.known.ensures.kind (c.requires.first, c.requires.some) e c.data_type.ensures c.in_ok-offsets.ensures.ok c.in_ok-validity.ensures.ok c.in-Ok.ensures.laid)

pub map::join_maps-returns-in-Ok-clause-room : goal.map::join_maps-returns-in-Ok-clause-room
map::join_maps-returns-in-Ok-clause-room t c =
    let a = c.args.array.now in
    let ws = c.args.windows.now in
    let e = c.deref.ensures.value ∙ c.in_ok-items.ensures.ok in
    ok-always c.maps_of.result _
    (map-room a _ _ _ _ ws c.deref.result.now c.known.ensures.kind (c.requires.first, c.requires.some) e (length-room ws _ c.requires.total c.ranges.total.fits) (offsets-room false ws _ 2147483647 c.in_ok-count.ensures.0 c.in_ok-count.ensures.1 refl) c.in-Ok.ensures.room)

pub fixed_size_list::join_lists-returns-in-Ok-clause-laid : goal.fixed_size_list::join_lists-returns-in-Ok-clause-laid
fixed_size_list::join_lists-returns-in-Ok-clause-laid t c =
    let a = c.args.array.now in
    let ws = c.args.windows.now in
    let e = c.deref.ensures.value ∙ c.in_ok-items.ensures.ok in
    ok-laid c.array_of.result _ _ c.array_of.ensures.ok
    (sized-laid a _ _ _ _ _ _ ws c.deref.result.now c.known.ensures.kind (c.requires.first, c.requires.some) e c.data_type.ensures c.in_ok-validity.ensures.ok c.in-Ok.ensures.laid)

pub fixed_size_list::join_lists-returns-in-Ok-clause-room : goal.fixed_size_list::join_lists-returns-in-Ok-clause-room
fixed_size_list::join_lists-returns-in-Ok-clause-room t c =
    let a = c.args.array.now in
    let ws = c.args.windows.now in
    let e = c.deref.ensures.value ∙ c.in_ok-items.ensures.ok in
    ok-always c.array_of.result _ (sized-room a _ _ _ ws c.deref.result.now c.known.ensures.kind (c.requires.first, c.requires.some) e (length-room ws _ c.requires.total c.ranges.total.fits) c.in-Ok.ensures.room)

pub struct_::join_records-returns-in-Ok-clause-laid : goal.struct_::join_records-returns-in-Ok-clause-laid
struct_::join_records-returns-in-Ok-clause-laid t c =
    let a = c.args.array.now in
    let ws = c.args.windows.now in
    ok-laid c.array_of.result _ _ c.array_of.ensures.ok
    (record-laid a _ _ _ _ _ _ ws c.known.ensures.kind c.data_type.ensures (c.in-Ok.ensures.laid ∙ ap (λ z. laid_each z 0 ws) c.values.ensures) c.in_ok-validity.ensures.ok)

pub struct_::join_records-returns-in-Ok-clause-room : goal.struct_::join_records-returns-in-Ok-clause-room
struct_::join_records-returns-in-Ok-clause-room t c =
    let a = c.args.array.now in
    let ws = c.args.windows.now in
    ok-always c.array_of.result _ (record-room a _ _ _ ws c.known.ensures.kind (length-room ws _ c.requires.total c.ranges.total.fits) (subst (λ z. SomePasses z 0 ws → ⊥) c.values.ensures c.in-Ok.ensures.room))

pub union::join_unions-returns-in-Ok-clause-laid : goal.union::join_unions-returns-in-Ok-clause-laid
union::join_unions-returns-in-Ok-clause-laid t c =
    let a = c.args.array.now in
    let ws = c.args.windows.now in
    ok-laid c.array_of.result _ _ c.array_of.ensures.ok
    (union-laid a _ _ _ _ _ _ _ _ _ ws c.known.ensures.kind c.data_type.ensures c.in_ok-types.ensures.ok (c.in-Ok.ensures.laid ∙ ap (λ z. laid_each z 0 ws) c.fields.ensures) c.in_ok-offsets.ensures.ok)

pub union::join_unions-returns-in-Ok-clause-room : goal.union::join_unions-returns-in-Ok-clause-room
union::join_unions-returns-in-Ok-clause-room t c =
    let a = c.args.array.now in
    let ws = c.args.windows.now in
    ok-always c.array_of.result _ (union-room a _ _ _ _ _ ws c.known.ensures.kind (length-room ws _ c.requires.total c.ranges.total.fits) c.in_ok-offsets.ensures.room (subst (λ z. SomePasses z 0 ws → ⊥) c.fields.ensures c.in-Ok.ensures.room))

pub dictionary::join_keyed-returns-in-Ok-clause-laid : goal.dictionary::join_keyed-returns-in-Ok-clause-laid
dictionary::join_keyed-returns-in-Ok-clause-laid t c =
    let a = c.args.array.now in
    let ws = c.args.windows.now in
    let e = c.deref.ensures.value ∙ c.in_ok-values.ensures.ok in
    let n = others-not _ _ ws c.values.ensures c.if-have_values.ensures in
    ok-laid c.array_of.result _ _ c.array_of.ensures.ok
    (moved-laid a _ _ _ _ _ _ ws c.deref.result.now c.known.ensures.kind (c.requires.first, c.requires.some) e c.data_type.ensures (c.in_ok-keys.ensures.laid ∙ ap (λ z. laid_keys true z ws) c.keys.ensures) n c.in-Ok.ensures.laid)

pub dictionary::join_keyed-returns-in-Ok-clause-room : goal.dictionary::join_keyed-returns-in-Ok-clause-room
dictionary::join_keyed-returns-in-Ok-clause-room t c =
    let a = c.args.array.now in
    let ws = c.args.windows.now in
    let e = c.deref.ensures.value ∙ c.in_ok-values.ensures.ok in
    let k = keys-room a _ _ ws c.known.ensures.fits c.known.ensures.kind (subst (λ z. KeysPass (key_count (keyed_by (key_type_of z))) 0 ws → ⊥) c.keys.ensures (c.in_ok-keys.ensures.room refl)) in
    ok-always c.array_of.result _ (moved-room a _ _ _ ws c.deref.result.now c.known.ensures.kind (c.requires.first, c.requires.some) e (length-room ws _ c.requires.total c.ranges.total.fits) k c.in-Ok.ensures.room)

pub struct_::join_fields-returns-clause-laid : goal.struct_::join_fields-returns-clause-laid
struct_::join_fields-returns-clause-laid t c =
    let l = count-of c.args.children.now in
    each-laid (layouts_of c.args.children.now) c.args.windows.now c.loop-f.joined.items (omega (arith, l, c.loop-f.invariant.same_length)) (λ k d h. c.loop-f.invariant.laid_so k d (omega (arith, l)))

pub struct_::join_fields-returns-clause-room : goal.struct_::join_fields-returns-clause-room
struct_::join_fields-returns-clause-room t c =
    let l = count-of c.args.children.now in
    each-room (layouts_of c.args.children.now) c.args.windows.now (λ k h. c.loop-f.invariant.room_so k (omega (arith, l)))
