use Rattle.std.proofs.Common.{◌≡◌, ◌+◌, true, false, [], ◌++◌, codes, sym, ap, ◌∙◌, subst, inl, inr, rules, arith}
use Rattle.std.proofs.Output.{has_written_append, has_written_of_eq, writes_in_calls_nil}
use Rattle.json.specs.Print.{quoted}
use Rattle.nest_array.specs.Seen.{layout_of, layouts_of}
use Rattle.nest_array.specs.WindowParts.{WindowParts}
use Rattle.nest_array.proofs.Children.{layouts-count}
use Rattle.nest_array.proofs.Keyed.{keyed-place}
use Rattle.nest_array.proofs.Picks.{child-there, child-lighter}
use Rattle.nest_array.proofs.SameRows.{struct-known, children-cover, record-shown}
use Rattle.nest_memory.specs.TypeOf.{field_of, field_list_of}
use Rattle.nest_memory.specs.TypeTree.{fields_of}
use Rattle.nest_model.specs.Accessors.{children_of}
use Rattle.nest_model.specs.Fits.{EachCovers, EachType}
use Rattle.nest_model.specs.Layout.{layout_type, count_layouts, weight, weight_all}
use Rattle.nest_model.specs.Meaning.{each, len, run, slot}
use Rattle.nest_model.specs.Part.{to_index}
use Rattle.nest_model.specs.Slot as slots
use Rattle.nest_model.specs.Slot.{seal}
use Rattle.nest_flat.specs.AnyPrimitive.{primitive_kind, primitive_layout}
use Rattle.json_write.specs.Formats.{format_of_type, has_format}
use Rattle.json_write.specs.JsonText.{comma, field_name, json_items, json_members, json_of_native, field_name_at, slot_json}
use Rattle.json_write.proofs.KeyedText.{keyed-kind, keyed-shown, native-shown-keyed}
use Rattle.json_write.proofs.TypeFormats.{shown-format-fits}
use Rattle.json_write.proofs.Nesting.{items-next, row-text, list-row, map-row, fixed-row, record-text, first-member, member-text, members-none, name-place, name-shown, pick-text, union-typed}
use Rattle.json_write.proofs.nested.+show.Goals as goal

pub write_each_item-loop-k-init : goal.write_each_item-loop-k-init
write_each_item-loop-k-init g t c plain = record { wrote = writes_in_calls_nil _ _; plain = plain }

pub write_each_item-loop-k-preserved : goal.write_each_item-loop-k-preserved
write_each_item-loop-k-preserved g t c plain =
    let a = layout_of c.args.array.now in
    let done = c.loop-k.invariant plain in
    let one = c.write_comma.ensures done.plain (search rules) in
    let two = c.write_slot.ensures one.plain (search rules) in
    has_written_of_eq _ _ _ _ _ (items-next (layout_type a) (slot a) c.args.start c.loop-k.k) (has_written_append _ _ _ _ _ _ (has_written_append _ _ _ _ _ _ done one) two)

pub write_each_item-returns : goal.write_each_item-returns
write_each_item-returns g t c plain ok =
    let a = layout_of c.args.array.now in
    let end : c.loop-k.k ≡ c.args.count = omega arith in
    has_written_of_eq _ _ _ _ _ (ap (λ n. json_items (layout_type a) false (seal (run (slot a) c.args.start n))) end) (c.loop-k.invariant plain)

pub write_list-write_list_slot-requires : goal.write_list-write_list_slot-requires
write_list-write_list_slot-requires g t c κs within =
    let w = ap weight (c.array.ensures ∙ ap (λ (x : WindowParts). x.array) c.window-row.ensures.parts) in
    let v = ap weight c.known.ensures.kind in
    let u = ap len c.array.ensures in (omega (arith, w, v), (within, omega (arith, u, c.offset.ensures, c.len.ensures, c.known-2.ensures)))

pub write_list-returns : goal.write_list-returns
write_list-returns g t c plain ok =
    let a = c.args.array.now in
    let w = c.window-row.result in
    let row = list-row false a c.args.i _ _ c.is_null.result w c.known.ensures.fits c.known.ensures.kind c.window-row.ensures.parts c.known-2.ensures c.window-row.ensures.items c.is_null.ensures.place in
    has_written_of_eq _ _ _ _ _ (row-text a (layout_of c.array.result.now) c.args.i c.offset.result c.len.result c.is_null.result w row c.array.ensures c.offset.ensures c.len.ensures) (c.write_list_slot.ensures plain ok)

pub write_large_list-write_list_slot-requires : goal.write_large_list-write_list_slot-requires
write_large_list-write_list_slot-requires g t c κs within =
    let w = ap weight (c.array.ensures ∙ ap (λ (x : WindowParts). x.array) c.window-row.ensures.parts) in
    let v = ap weight c.known.ensures.kind in
    let u = ap len c.array.ensures in (omega (arith, w, v), (within, omega (arith, u, c.offset.ensures, c.len.ensures, c.known-2.ensures)))

pub write_large_list-returns : goal.write_large_list-returns
write_large_list-returns g t c plain ok =
    let a = c.args.array.now in
    let w = c.window-row.result in
    let row = list-row true a c.args.i _ _ c.is_null.result w c.known.ensures.fits c.known.ensures.kind c.window-row.ensures.parts c.known-2.ensures c.window-row.ensures.items c.is_null.ensures.place in
    has_written_of_eq _ _ _ _ _ (row-text a (layout_of c.array.result.now) c.args.i c.offset.result c.len.result c.is_null.result w row c.array.ensures c.offset.ensures c.len.ensures) (c.write_list_slot.ensures plain ok)

pub write_fixed_size_list-write_list_slot-requires : goal.write_fixed_size_list-write_list_slot-requires
write_fixed_size_list-write_list_slot-requires g t c κs within =
    let w = ap weight (c.array.ensures ∙ ap (λ (x : WindowParts). x.array) c.window-row.ensures.parts) in
    let v = ap weight c.known.ensures.kind in
    let u = ap len c.array.ensures in (omega (arith, w, v), (within, omega (arith, u, c.offset.ensures, c.len.ensures, c.known-2.ensures)))

pub write_fixed_size_list-returns : goal.write_fixed_size_list-returns
write_fixed_size_list-returns g t c plain ok =
    let a = c.args.array.now in
    let w = c.window-row.result in
    let row = fixed-row a c.args.i _ _ c.is_null.result w c.known.ensures.fits c.known.ensures.kind c.window-row.ensures.parts c.known-2.ensures c.window-row.ensures.items c.is_null.ensures.place in
    has_written_of_eq _ _ _ _ _ (row-text a (layout_of c.array.result.now) c.args.i c.offset.result c.len.result c.is_null.result w row c.array.ensures c.offset.ensures c.len.ensures) (c.write_list_slot.ensures plain ok)

pub write_map-write_list_slot-requires : goal.write_map-write_list_slot-requires
write_map-write_list_slot-requires g t c κs within =
    let w = ap weight (c.array.ensures ∙ ap (λ (x : WindowParts). x.array) c.window-row.ensures.parts) in
    let v = ap weight c.known.ensures.kind in
    let u = ap len c.array.ensures in (omega (arith, w, v), (within, omega (arith, u, c.offset.ensures, c.len.ensures, c.known-2.ensures)))

pub write_map-returns : goal.write_map-returns
write_map-returns g t c plain ok =
    let a = c.args.array.now in
    let w = c.window-row.result in
    let row = map-row a c.args.i _ _ c.is_null.result w c.known.ensures.fits c.known.ensures.kind c.window-row.ensures.parts c.known-2.ensures c.window-row.ensures.items c.is_null.ensures.place in
    has_written_of_eq _ _ _ _ _ (row-text a (layout_of c.array.result.now) c.args.i c.offset.result c.len.result c.is_null.result w row c.array.ensures c.offset.ensures c.len.ensures) (c.write_list_slot.ensures plain ok)

pub write_slot-returns-in-Null : goal.write_slot-returns-in-Null
write_slot-returns-in-Null g t c plain ok =
    has_written_of_eq _ _ _ _ _ (sym (ap (λ x. slot_json (layout_of x) c.args.i) c.in-Null.is ∙ ap (λ b. slot_json b c.args.i) c.known.ensures.kind)) (c.write_str.ensures.writes plain ok)

pub write_members-loop-field-init : goal.write_members-loop-field-init
write_members-loop-field-init g t c =
    let all = c.args.fields.now in
    let every = c.args.children.now in
    let it = c.into_iter-field-iterator.result in
    let e : it.a.rest.now ≡ all = ap (λ z. z.a.rest.now) c.into_iter-field-iterator.ensures.into_iter_gives ∙ ap (λ z. z.rest.now) c.zip-field-items.ensures.first ∙ c.iter.ensures.rest in
    let h : it.b.rest.now ≡ every = ap (λ z. z.b.rest.now) c.into_iter-field-iterator.ensures.into_iter_gives ∙ c.zip-field-items.ensures.second.0 in
    let v = ap (λ xs. weight_all (layouts_of xs)) h in (
      subst (λ xs. EachType (field_list_of it.a.rest.now) (layouts_of xs)) (sym h) (subst (λ fs. EachType (field_list_of fs) (layouts_of every)) (sym e) c.requires.typed),
      subst (λ xs. EachCovers (layouts_of xs) (c.args.i + 1)) (sym h) c.requires.within,
      omega (arith, v),
      λ plain. (
        [],
        record { wrote = writes_in_calls_nil _ _; plain = plain },
        ap (λ fs. json_members (field_list_of fs) false (each (layouts_of it.b.rest.now) c.args.i)) e ∙ ap (λ xs. json_members (field_list_of all) false (each (layouts_of xs) c.args.i)) h,
      ),
    )

pub write_members-write_slot-requires : goal.write_members-write_slot-requires
write_members-write_slot-requires g t c κs within =
    let l = c.loop-field.field-iterator in
    let (typed, covers, lighter, text) = c.loop-field.invariant in
    let x = first-member c.in-Some.child.now c.in-Some.field.now l.a.rest.now c.next.new.self.a.rest.now l.b.rest.now c.next.new.self.b.rest.now c.args.i c.in-Some.ensures.steps.0 c.in-Some.ensures.steps.1 typed covers in
    let w = ap (λ xs. weight_all (layouts_of xs)) c.in-Some.ensures.steps.1 in
    (omega (arith, x.lighter, w, lighter), (within, omega (arith, x.within)))

pub write_members-loop-field-preserved : goal.write_members-loop-field-preserved
write_members-loop-field-preserved g t c =
    let l = c.loop-field.field-iterator in
    let (typed, covers, lighter, text) = c.loop-field.invariant in
    let e = c.in-Some.ensures.steps.0 in
    let h = c.in-Some.ensures.steps.1 in
    let x = first-member c.in-Some.child.now c.in-Some.field.now l.a.rest.now c.next.new.self.a.rest.now l.b.rest.now c.next.new.self.b.rest.now c.args.i e h typed covers in
    let w = ap (λ xs. weight_all (layouts_of xs)) h in (
      x.rest_typed,
      x.rest_within,
      omega (arith, x.lighter, w, lighter),
      λ plain.
          let (done, wrote, whole) = text plain in
          let one = c.write_comma.ensures wrote.plain (search rules) in
          let two = c.write_quoted.ensures one.plain (search rules) in
          let three = c.write_str.ensures.writes two.plain (search rules) in
          let four = c.write_slot.ensures three.plain (search rules) in (
            (((done ++ comma c.loop-field.after) ++ quoted c.name.result.now) ++ codes ":") ++ slot_json (layout_of c.in-Some.child.now) c.args.i,
            has_written_append _ _ _ _ _ _ (has_written_append _ _ _ _ _ _ (has_written_append _ _ _ _ _ _ (has_written_append _ _ _ _ _ _ wrote one) two) three) four,
            member-text c.in-Some.child.now c.in-Some.field.now l.a.rest.now c.next.new.self.a.rest.now l.b.rest.now c.next.new.self.b.rest.now c.args.i c.loop-field.after done _ _ e h x.typed c.name.ensures whole,
          ),
    )

pub write_members-returns : goal.write_members-returns
write_members-returns g t c plain ok =
    let l = c.loop-field.field-iterator in
    let (typed, covers, lighter, text) = c.loop-field.invariant in
    let (done, wrote, whole) = text plain in
    has_written_of_eq _ _ _ _ _ (members-none l.a.rest.now l.b.rest.now c.args.i c.loop-field.after done _ typed (elim c.in-None.ensures.steps [ inl x ↦ inl x.1.0 | inr x ↦ inr x.1.0 ]) whole) wrote

pub write_struct-write_members-requires : goal.write_struct-write_members-requires
write_struct-write_members-requires g t c κs within =
    let a = c.args.array.now in
    let cs = layouts_of c.values.result.now in
    let x = struct-known a cs c.known.ensures.fits c.known.ensures.kind c.values.ensures in
    let w = ap weight c.known.ensures.kind in
    let v = ap weight_all c.values.ensures in (
      omega (arith, w, v),
      (
        within,
        (
          subst (λ fs. EachType fs cs) (sym c.fields.ensures) x.each_type,
          children-cover a cs (c.args.i + 1) x c.known.ensures.kind c.values.ensures (omega arith),
        ),
      ),
    )

pub write_struct-returns : goal.write_struct-returns
write_struct-returns g t c plain ok =
    let a = c.args.array.now in
    let cs = layouts_of c.values.result.now in
    let x = struct-known a cs c.known.ensures.fits c.known.ensures.kind c.values.ensures in
    let one = c.write_str-2.ensures.writes plain (search rules) in
    let two = c.write_members.ensures one.plain (search rules) in
    let three = c.write_str-3.ensures.writes two.plain ok in
    has_written_of_eq _ _ _ _ _ (record-text (layout_type a) _ _ _ x.typed c.fields.ensures (record-shown a cs c.args.i _ c.known.ensures.kind c.values.ensures c.is_null.ensures.place c.if-is_null.false))
    (has_written_append _ _ _ _ _ _ (has_written_append _ _ _ _ _ _ one two) three)

pub write_dictionary-write_any_primitive_as-requires : goal.write_dictionary-write_any_primitive_as-requires
write_dictionary-write_any_primitive_as-requires g t c =
    let a = c.args.array.now in
    let valid = sym c.is_null.ensures.place ∙ c.if-is_null.false in
    let like = c.in-Some.ensures.1 ∙ c.values-values.ensures in
    let at = keyed-place a c.args.i c.known.ensures.fits c.known.ensures.kind c.requires valid in
    let e = ap to_index c.key_value-key.ensures.key in
    let u = ap len like in
    let kind = primitive_kind c.in-Some.natives.now in
    let typed = shown-format-fits (layout_type a) kind (keyed-kind a (primitive_layout c.in-Some.natives.now) kind c.known.ensures.fits c.known.ensures.kind like c.known-in-Some.ensures.kind) in
    record {
      within = omega (arith, at, e, u);
      format = subst (λ v. has_format kind v ≡ true) (ap format_of_type (sym c.data_type.ensures) ∙ sym c.of_type-format.ensures) typed;
    }

pub write_dictionary-returns-in-Some : goal.write_dictionary-returns-in-Some
write_dictionary-returns-in-Some g t c plain ok =
    let a = c.args.array.now in
    let b = primitive_layout c.in-Some.natives.now in
    let k = c.key_value-key.result in
    let valid = sym c.is_null.ensures.place ∙ c.if-is_null.false in
    let like = c.in-Some.ensures.1 ∙ c.values-values.ensures in
    has_written_of_eq _ _ _ _ _
    (ap (λ v. json_of_native v (slot b k)) (c.of_type-format.ensures ∙ ap format_of_type c.data_type.ensures)
    ∙ native-shown-keyed a b c.args.i k _ c.known-in-Some.ensures.parts c.known.ensures.kind valid like c.key_value-key.ensures.key)
    (c.write_any_primitive_as.ensures plain ok)

pub write_dictionary-returns-in-None : goal.write_dictionary-returns-in-None
write_dictionary-returns-in-None g t c plain ok =
    let a = c.args.array.now in
    let valid = sym c.is_null.ensures.place ∙ c.if-is_null.false in
    has_written_of_eq _ _ _ _ _ (keyed-shown a _ c.args.i _ c.known.ensures.fits c.known.ensures.kind valid c.values-values.ensures c.in-None.ensures c.key_value-key.ensures.key) (c.write_slot.ensures plain ok)

pub write_union-bounds-fields-k : goal.write_union-bounds-fields-k
write_union-bounds-fields-k g t c =
    let a = c.args.array.now in
    name-place a _ _ c.known.ensures.fits c.known.ensures.kind (c.get_fields-fields.ensures ∙ ap fields_of c.data_type.ensures) c.index-k.ensures.field_there

pub write_union-bounds-children-k : goal.write_union-bounds-children-k
write_union-bounds-children-k g t c =
    let n = layouts-count c.fields-children.result.now in
    let e = ap count_layouts c.fields-children.ensures in
    omega (arith, n, e, c.index-k.ensures.field_there)

pub write_union-write_slot-requires : goal.write_union-write_slot-requires
write_union-write_slot-requires g t c κs within =
    let a = c.args.array.now in
    let there = child-there _ (children_of a) _ _ c.fields-children.ensures c.index-k.ensures.field_there c.index-children-k.is in
    let w = child-lighter a _ _ _ c.known.ensures.kind c.fields-children.ensures c.index-k.ensures.field_there c.index-children-k.is in
    let l = ap len there in
    (omega (arith, w), (within, omega (arith, l, c.index-k.ensures.slot_there)))

pub write_union-returns : goal.write_union-returns
write_union-returns g t c plain ok =
    let a = c.args.array.now in
    let k = c.index-k.result.0 in
    let there = child-there _ (children_of a) k _ c.fields-children.ensures c.index-k.ensures.field_there c.index-children-k.is in
    let fields = c.get_fields-fields.ensures ∙ ap fields_of c.data_type.ensures in
    let named = name-place a _ k c.known.ensures.fits c.known.ensures.kind fields c.index-k.ensures.field_there in
    let name = c.name.ensures ∙ ap (λ f. field_name (field_of f)) c.index-fields-k.is ∙ sym (name-shown c.get_fields-fields.result.now k c.index-fields-k.result named) ∙ ap (λ fs. field_name_at fs k) fields in
    let one = c.write_str.ensures.writes plain (search rules) in
    let two = c.write_quoted.ensures one.plain (search rules) in
    let three = c.write_str-2.ensures.writes two.plain (search rules) in
    let four = c.write_slot.ensures three.plain (search rules) in
    let five = c.write_str-3.ensures.writes four.plain ok in
    has_written_of_eq _ _ _ _ _ (pick-text (layout_type a) k c.name.result.now (layout_of c.index-children-k.result) c.index-k.result.1 _ (union-typed a c.known.ensures.fits c.known.ensures.kind) name (c.index-k.ensures.picks ∙ ap (λ b. slots.pick k (layout_type b) (slot b c.index-k.result.1)) there))
    (has_written_append _ _ _ _ _ _ (has_written_append _ _ _ _ _ _ (has_written_append _ _ _ _ _ _ (has_written_append _ _ _ _ _ _ one two) three) four) five)
