use Rattle.std.proofs.Common.{◌≡◌, refl, ◌<◌, ◌*◌, ◌^◌, ◌∙◌, ap, sym, subst, length, true, false, arith}
use Rattle.std.proofs.lemmas.Result.{IfOk-weaker}
use Rattle.nest_memory.specs.TypeOf.{type_of, field_of}
use Rattle.nest_model.specs.Layout as layouts
use Rattle.nest_model.specs.MadeNullLaws.{top-fits, fits}
use Rattle.nest_model.specs.NullKinds.{field_weight, fields_weight, item-lighter, fields-lighter, value-lighter, dictionary-parts, list-parts, map-parts, sized-parts, struct-parts, union-parts}
use Rattle.nest_model.specs.NullLaws.{fills-product, fills-below}
use Rattle.nest_model.specs.NullLayout.{none_valid, null_array, null_children}
use Rattle.nest_model.specs.Nulls.{Fills, error_of, field_error, fields_error}
use Rattle.nest_array.proofs.NullMakes.{list-item, list-long, list-below, map-item, map-long, map-below, sized-item, sized-long, sized-below, struct-below, union-mode, union-ids, union-short, union-below, dictionary-kind, dictionary-key, dictionary-value, dictionary-below, field-lighter, weight-of, first_error-of, field-below, all-nulls}
use Rattle.nest_array.proofs.+nulls.Goals as goal

pub list::ListArray::nulls-nulls-requires : goal.list::ListArray::nulls-nulls-requires
list::ListArray::nulls-nulls-requires t c = list-long false (type_of c.args.data_type.now) c.args.length c.args.fill c.requires.kind c.requires.unrefused

pub list::ListArray::nulls-item_type-requires : goal.list::ListArray::nulls-item_type-requires
list::ListArray::nulls-item_type-requires t c = list-item false (type_of c.args.data_type.now) c.requires.kind

pub list::ListArray::nulls-null_array-requires : goal.list::ListArray::nulls-null_array-requires
list::ListArray::nulls-null_array-requires t c =
    let a = type_of c.args.data_type.now in
    let u = type_of c.item_type.result.now in (
      omega (arith, item-lighter a u c.item_type.ensures),
      (list-below false a u c.args.length c.args.fill c.requires.kind c.item_type.ensures c.requires.unrefused, refl),
    )

pub list::ListArray::nulls-of-requires : goal.list::ListArray::nulls-of-requires
list::ListArray::nulls-of-requires t c =
    let a = type_of c.args.data_type.now in
    let u = type_of c.item_type.result.now in
    top-fits a c.args.length c.args.fill _ c.requires.valid c.requires.unrefused
    ((λ i. layouts.list false (c.in-Ok.ensures.ok i) (c.in_ok-ranges.ensures.ok.0 i) (c.in_ok-items.ensures.ok i) (c.in_ok-ranges.ensures.ok.1 i))
    ∙ sym (list-parts false a u c.args.length c.args.fill c.requires.kind c.item_type.ensures))

pub list::ListArray::nulls-returns-in-Ok-clause-ok : goal.list::ListArray::nulls-returns-in-Ok-clause-ok
list::ListArray::nulls-returns-in-Ok-clause-ok t c =
    let a = type_of c.args.data_type.now in
    let u = type_of c.item_type.result.now in
    IfOk-weaker c.of.result _ _
    (λ made h.
    h ∙ (λ i. layouts.list false (c.in-Ok.ensures.ok i) (c.in_ok-ranges.ensures.ok.0 i) (c.in_ok-items.ensures.ok i) (c.in_ok-ranges.ensures.ok.1 i))
    ∙ sym (list-parts false a u c.args.length c.args.fill c.requires.kind c.item_type.ensures))
    c.of.ensures.ok

pub list::large::LargeListArray::nulls-nulls-requires : goal.list::large::LargeListArray::nulls-nulls-requires
list::large::LargeListArray::nulls-nulls-requires t c = list-long true (type_of c.args.data_type.now) c.args.length c.args.fill c.requires.kind c.requires.unrefused

pub list::large::LargeListArray::nulls-item_type-requires : goal.list::large::LargeListArray::nulls-item_type-requires
list::large::LargeListArray::nulls-item_type-requires t c = list-item true (type_of c.args.data_type.now) c.requires.kind

pub list::large::LargeListArray::nulls-null_array-requires : goal.list::large::LargeListArray::nulls-null_array-requires
list::large::LargeListArray::nulls-null_array-requires t c =
    let a = type_of c.args.data_type.now in
    let u = type_of c.item_type.result.now in (
      omega (arith, item-lighter a u c.item_type.ensures),
      (list-below true a u c.args.length c.args.fill c.requires.kind c.item_type.ensures c.requires.unrefused, refl),
    )

pub list::large::LargeListArray::nulls-of-requires : goal.list::large::LargeListArray::nulls-of-requires
list::large::LargeListArray::nulls-of-requires t c =
    let a = type_of c.args.data_type.now in
    let u = type_of c.item_type.result.now in
    top-fits a c.args.length c.args.fill _ c.requires.valid c.requires.unrefused
    ((λ i. layouts.list true (c.in-Ok.ensures.ok i) (c.in_ok-ranges.ensures.ok.0 i) (c.in_ok-items.ensures.ok i) (c.in_ok-ranges.ensures.ok.1 i))
    ∙ sym (list-parts true a u c.args.length c.args.fill c.requires.kind c.item_type.ensures))

pub list::large::LargeListArray::nulls-returns-in-Ok-clause-ok : goal.list::large::LargeListArray::nulls-returns-in-Ok-clause-ok
list::large::LargeListArray::nulls-returns-in-Ok-clause-ok t c =
    let a = type_of c.args.data_type.now in
    let u = type_of c.item_type.result.now in
    IfOk-weaker c.of.result _ _
    (λ made h.
    h ∙ (λ i. layouts.list true (c.in-Ok.ensures.ok i) (c.in_ok-ranges.ensures.ok.0 i) (c.in_ok-items.ensures.ok i) (c.in_ok-ranges.ensures.ok.1 i))
    ∙ sym (list-parts true a u c.args.length c.args.fill c.requires.kind c.item_type.ensures))
    c.of.ensures.ok

pub map::MapArray::nulls-nulls-requires : goal.map::MapArray::nulls-nulls-requires
map::MapArray::nulls-nulls-requires t c = map-long (type_of c.args.data_type.now) c.args.length c.args.fill c.requires.kind c.requires.unrefused

pub map::MapArray::nulls-item_type-requires : goal.map::MapArray::nulls-item_type-requires
map::MapArray::nulls-item_type-requires t c = map-item (type_of c.args.data_type.now) c.requires.kind

pub map::MapArray::nulls-null_array-requires : goal.map::MapArray::nulls-null_array-requires
map::MapArray::nulls-null_array-requires t c =
    let a = type_of c.args.data_type.now in
    let u = type_of c.item_type.result.now in (
      omega (arith, item-lighter a u c.item_type.ensures),
      (map-below a u c.args.length c.args.fill c.requires.kind c.item_type.ensures c.requires.unrefused, refl),
    )

pub map::MapArray::nulls-of-requires : goal.map::MapArray::nulls-of-requires
map::MapArray::nulls-of-requires t c =
    let a = type_of c.args.data_type.now in
    let u = type_of c.item_type.result.now in
    top-fits a c.args.length c.args.fill _ c.requires.valid c.requires.unrefused
    ((λ i. layouts.map (c.in-Ok.ensures.ok i) (c.in_ok-ranges.ensures.ok.0 i) (c.in_ok-items.ensures.ok i) (c.in_ok-ranges.ensures.ok.1 i))
    ∙ sym (map-parts a u c.args.length c.args.fill c.requires.kind c.item_type.ensures))

pub map::MapArray::nulls-returns-in-Ok-clause-ok : goal.map::MapArray::nulls-returns-in-Ok-clause-ok
map::MapArray::nulls-returns-in-Ok-clause-ok t c =
    let a = type_of c.args.data_type.now in
    let u = type_of c.item_type.result.now in
    IfOk-weaker c.of.result _ _
    (λ made h.
    h ∙ (λ i. layouts.map (c.in-Ok.ensures.ok i) (c.in_ok-ranges.ensures.ok.0 i) (c.in_ok-items.ensures.ok i) (c.in_ok-ranges.ensures.ok.1 i))
    ∙ sym (map-parts a u c.args.length c.args.fill c.requires.kind c.item_type.ensures))
    c.of.ensures.ok

pub fixed_size_list::FixedSizeListArray::nulls-overflow_mul-count : goal.fixed_size_list::FixedSizeListArray::nulls-overflow_mul-count
fixed_size_list::FixedSizeListArray::nulls-overflow_mul-count t c =
    let s = c.unwrap_or.ensures ∙ c.size.ensures.or_zero in
    let l : c.args.length * c.unwrap_or.result < 2 ^ 64 = subst (λ k. c.args.length * k < 2 ^ 64) (sym s) (sized-long (type_of c.args.data_type.now) c.args.length c.args.fill c.requires.kind c.requires.unrefused) in
    omega (arith, l)

pub fixed_size_list::FixedSizeListArray::nulls-item_type-requires : goal.fixed_size_list::FixedSizeListArray::nulls-item_type-requires
fixed_size_list::FixedSizeListArray::nulls-item_type-requires t c = sized-item (type_of c.args.data_type.now) c.requires.kind

pub fixed_size_list::FixedSizeListArray::nulls-null_array-requires : goal.fixed_size_list::FixedSizeListArray::nulls-null_array-requires
fixed_size_list::FixedSizeListArray::nulls-null_array-requires t c =
    let a = type_of c.args.data_type.now in
    let u = type_of c.item_type.result.now in
    let s = c.unwrap_or.ensures ∙ c.size.ensures.or_zero in (
      omega (arith, item-lighter a u c.item_type.ensures),
      (
        ap (λ k. error_of u (c.args.length * k) c.args.fill) s ∙ sized-below a u c.args.length c.args.fill c.requires.kind c.item_type.ensures c.requires.unrefused,
        fills-product c.args.fill c.args.length c.unwrap_or.result c.requires.valid,
      ),
    )

pub fixed_size_list::FixedSizeListArray::nulls-of-requires : goal.fixed_size_list::FixedSizeListArray::nulls-of-requires
fixed_size_list::FixedSizeListArray::nulls-of-requires t c =
    let a = type_of c.args.data_type.now in
    let u = type_of c.item_type.result.now in
    let s = c.unwrap_or.ensures ∙ c.size.ensures.or_zero in
    top-fits a c.args.length c.args.fill _ c.requires.valid c.requires.unrefused
    ((λ i. layouts.fixed_size_list (c.in-Ok.ensures.ok i) (c.in_ok-items.ensures.ok i) (c.in_ok-validity.ensures.ok i))
    ∙ (λ i. layouts.fixed_size_list a (null_array u (c.args.length * s i) c.args.fill) (none_valid c.args.fill c.args.length))
    ∙ sym (sized-parts a u c.args.length c.args.fill c.requires.kind c.item_type.ensures))

pub fixed_size_list::FixedSizeListArray::nulls-returns-in-Ok-clause-ok : goal.fixed_size_list::FixedSizeListArray::nulls-returns-in-Ok-clause-ok
fixed_size_list::FixedSizeListArray::nulls-returns-in-Ok-clause-ok t c =
    let a = type_of c.args.data_type.now in
    let u = type_of c.item_type.result.now in
    let s = c.unwrap_or.ensures ∙ c.size.ensures.or_zero in
    IfOk-weaker c.of.result _ _
    (λ made h.
    h ∙ (λ i. layouts.fixed_size_list (c.in-Ok.ensures.ok i) (c.in_ok-items.ensures.ok i) (c.in_ok-validity.ensures.ok i))
    ∙ (λ i. layouts.fixed_size_list a (null_array u (c.args.length * s i) c.args.fill) (none_valid c.args.fill c.args.length))
    ∙ sym (sized-parts a u c.args.length c.args.fill c.requires.kind c.item_type.ensures))
    c.of.ensures.ok

pub struct_::StructArray::nulls-null_fields-requires : goal.struct_::StructArray::nulls-null_fields-requires
struct_::StructArray::nulls-null_fields-requires t c =
    let a = type_of c.args.data_type.now in (
      omega (arith, fields-lighter a, ap fields_weight c.fields.ensures.fields),
      (ap (λ fs. fields_error fs c.args.length c.args.fill) c.fields.ensures.fields ∙ struct-below a c.args.length c.args.fill c.requires.kind c.requires.unrefused, c.requires.valid),
    )

pub struct_::StructArray::nulls-new-requires : goal.struct_::StructArray::nulls-new-requires
struct_::StructArray::nulls-new-requires t c =
    let a = type_of c.args.data_type.now in
    let k = c.in_ok-children.ensures.ok ∙ ap (λ fs. null_children fs c.args.length c.args.fill) c.fields.ensures.fields in
    fits a c.args.length c.args.fill _ c.requires.valid c.requires.unrefused
    ((λ i. layouts.struct (c.in-Ok.ensures.ok i) (k i) (c.in_ok-validity.ensures.ok i)) ∙ sym (struct-parts a c.args.length c.args.fill c.requires.kind))

pub struct_::StructArray::nulls-returns-in-Ok-clause-ok : goal.struct_::StructArray::nulls-returns-in-Ok-clause-ok
struct_::StructArray::nulls-returns-in-Ok-clause-ok t c =
    let a = type_of c.args.data_type.now in
    let k = c.in_ok-children.ensures.ok ∙ ap (λ fs. null_children fs c.args.length c.args.fill) c.fields.ensures.fields in
    c.new.ensures ∙ (λ i. layouts.struct (c.in-Ok.ensures.ok i) (k i) (c.in_ok-validity.ensures.ok i)) ∙ sym (struct-parts a c.args.length c.args.fill c.requires.kind)

pub union::UnionArray::nulls-null_types-requires : goal.union::UnionArray::nulls-null_types-requires
union::UnionArray::nulls-null_types-requires t c = union-ids (type_of c.args.data_type.now) c.args.length c.args.fill c.requires.kind c.requires.unrefused

pub union::UnionArray::nulls-places-requires : goal.union::UnionArray::nulls-places-requires
union::UnionArray::nulls-places-requires t c = union-short (type_of c.args.data_type.now) c.args.length c.args.fill c.requires.kind c.requires.unrefused

pub union::UnionArray::nulls-null_fields-requires : goal.union::UnionArray::nulls-null_fields-requires
union::UnionArray::nulls-null_fields-requires t c =
    let a = type_of c.args.data_type.now in (
      omega (arith, fields-lighter a, ap fields_weight c.fields.ensures.fields),
      (ap (λ fs. fields_error fs c.args.length c.args.fill) c.fields.ensures.fields ∙ union-below a c.args.length c.args.fill c.requires.kind c.requires.unrefused, c.requires.valid),
    )

pub union::UnionArray::nulls-new-requires : goal.union::UnionArray::nulls-new-requires
union::UnionArray::nulls-new-requires t c =
    let a = type_of c.args.data_type.now in
    let m = union-mode a c.requires.kind in
    let ks = c.in_ok-types.ensures.ok in
    let os = c.in_ok-offsets.ensures.ok m.0 m.1 in
    let k = c.in_ok-fields.ensures.ok ∙ ap (λ fs. null_children fs c.args.length c.args.fill) c.fields.ensures.fields in
    fits a c.args.length c.args.fill _ c.requires.valid c.requires.unrefused
    ((λ i. layouts.union (c.in-Ok.ensures.ok i) (ks i) (k i) (os i) 0) ∙ sym (union-parts a m.0 c.args.length c.args.fill m.1))

pub union::UnionArray::nulls-returns-in-Ok-clause-ok : goal.union::UnionArray::nulls-returns-in-Ok-clause-ok
union::UnionArray::nulls-returns-in-Ok-clause-ok t c =
    let a = type_of c.args.data_type.now in
    let m = union-mode a c.requires.kind in
    let ks = c.in_ok-types.ensures.ok in
    let os = c.in_ok-offsets.ensures.ok m.0 m.1 in
    let k = c.in_ok-fields.ensures.ok ∙ ap (λ fs. null_children fs c.args.length c.args.fill) c.fields.ensures.fields in
    c.new.ensures ∙ (λ i. layouts.union (c.in-Ok.ensures.ok i) (ks i) (k i) (os i) 0) ∙ sym (union-parts a m.0 c.args.length c.args.fill m.1)

pub nulls::null_fields-null_array-requires : goal.nulls::null_fields-null_array-requires
nulls::null_fields-null_array-requires t c =
    let f = field_of c.index-fields-i.result in
    let e = ap (λ x. field_weight (field_of x)) c.index-fields-i.is in
    let w = field-lighter c.args.fields.now c.loop-i.i c.index-fields-i.result (omega arith) in
    let q = weight-of f (type_of c.data_type.result.now) c.data_type.ensures in (
      omega (arith, e, w, q),
      (
        first_error-of f (type_of c.data_type.result.now) c.args.length c.args.fill c.data_type.ensures
            ∙ ap (λ x. field_error (field_of x) c.args.length c.args.fill) c.index-fields-i.is
            ∙ field-below c.args.fields.now c.loop-i.i c.args.length c.args.fill c.index-fields-i.result (omega arith) c.requires.unrefused,
        c.requires.valid,
      ),
    )

pub nulls::null_fields-returns-clause-ok : goal.nulls::null_fields-returns-clause-ok
nulls::null_fields-returns-clause-ok t c =
    let l : length c.loop-i.children.items ≡ length c.args.fields.now = omega (arith, c.loop-i.invariant.same_length) in
    all-nulls c.loop-i.children.items c.args.fields.now c.args.length c.args.fill l (λ k d f h. c.loop-i.invariant.done k d f (omega arith))

pub nulls::null_array-nulls-requires-in-Dictionary : goal.nulls::null_array-nulls-requires-in-Dictionary
nulls::null_array-nulls-requires-in-Dictionary t c = (
  omega arith,
  (dictionary-kind (type_of c.args.data_type.now) _ (sym c.to_physical_type.ensures ∙ c.in-Dictionary.is), (c.requires.unrefused, c.requires.valid)),
)

pub dictionary::DictionaryArray::nulls-unreachable-requires : goal.dictionary::DictionaryArray::nulls-unreachable-requires
dictionary::DictionaryArray::nulls-unreachable-requires t c = dictionary-key (type_of c.args.data_type.now) c.requires.kind (sym c.key_type.ensures ∙ c.in_default.is)

pub dictionary::DictionaryArray::nulls-value_type-requires : goal.dictionary::DictionaryArray::nulls-value_type-requires
dictionary::DictionaryArray::nulls-value_type-requires t c = dictionary-value (type_of c.args.data_type.now) c.requires.kind

pub dictionary::DictionaryArray::nulls-null_array-requires : goal.dictionary::DictionaryArray::nulls-null_array-requires
dictionary::DictionaryArray::nulls-null_array-requires t c =
    let a = type_of c.args.data_type.now in
    let u = type_of c.value_type.result.now in
    let v = c.values_below.ensures in (
      omega (arith, value-lighter a u c.value_type.ensures),
      (
        ap (λ k. error_of u k c.args.fill) v ∙ dictionary-below a u c.args.length c.args.fill c.value_type.ensures c.requires.unrefused,
        subst (Fills c.args.fill) (sym v) (fills-below c.args.fill),
      ),
    )

pub dictionary::DictionaryArray::nulls-of-requires : goal.dictionary::DictionaryArray::nulls-of-requires
dictionary::DictionaryArray::nulls-of-requires t c =
    let a = type_of c.args.data_type.now in
    let u = type_of c.value_type.result.now in
    let n = c.in-Ok.ensures.ok ∙ ap (λ k. null_array u k c.args.fill) c.values_below.ensures in
    (top-fits a c.args.length c.args.fill _ c.requires.valid c.requires.unrefused
    ((λ i. layouts.dictionary (c.in-Ok-clone.ensures.ok i) (c.in_ok-keys.ensures.ok i) (n i))
    ∙ sym (dictionary-parts a u c.in-Some.key c.args.length c.args.fill (sym c.key_type.ensures ∙ c.in-Some.is) c.value_type.ensures))).1

pub dictionary::DictionaryArray::nulls-returns-in-Ok-clone-clause-ok : goal.dictionary::DictionaryArray::nulls-returns-in-Ok-clone-clause-ok
dictionary::DictionaryArray::nulls-returns-in-Ok-clone-clause-ok t c =
    let a = type_of c.args.data_type.now in
    let u = type_of c.value_type.result.now in
    let n = c.in-Ok.ensures.ok ∙ ap (λ k. null_array u k c.args.fill) c.values_below.ensures in
    IfOk-weaker c.of.result _ _
    (λ made h.
    h ∙ (λ i. layouts.dictionary (c.in-Ok-clone.ensures.ok i) (c.in_ok-keys.ensures.ok i) (n i))
    ∙ sym (dictionary-parts a u c.in-Some.key c.args.length c.args.fill (sym c.key_type.ensures ∙ c.in-Some.is) c.value_type.ensures))
    c.of.ensures.ok
