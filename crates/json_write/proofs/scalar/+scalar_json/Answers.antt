use Rattle.std.proofs.Common.{◌≡◌, [], ◌++◌, codes, true, false, sym, ap, subst, ◌∙◌, inl, inr, rules, arith}
use Rattle.std.proofs.Output.{has_written_append, has_written_of_eq, writes_in_calls_nil}
use Rattle.json.specs.Print.{quoted}
use Rattle.nest_model.specs.Layout.{field_types}
use Rattle.nest_array.specs.ScalarParts.{slots_in, types_in}
use Rattle.nest_array.specs.Seen.{layout_of}
use Rattle.nest_array.specs.SeenScalar.{ValueFits, slot_of_value}
use Rattle.nest_memory.specs.TypeOf.{field_list_of}
use Rattle.nest_model.specs.Slot.{node_count, count_within}
use Rattle.nest_flat.specs.AnyNative.{native_kind, native_numbers}
use Rattle.json_write.proofs.TypeFormats.{shown-format-fits}
use Rattle.json_write.specs.Formats.{format_of_type, has_format}
use Rattle.json_write.specs.JsonText.{comma, json_members, json_of_slot, json_of_value, members_of}
use Rattle.json_write.proofs.ScalarText.{members-shown, items-text, first-value, value-text, values-none}
use Rattle.json_write.proofs.scalar.+scalar_json.Goals as goal

pub write_scalar_members-loop-field-init : goal.write_scalar_members-loop-field-init
write_scalar_members-loop-field-init g t c =
    let all = c.args.fields.now in
    let every = c.args.values.now in
    let it = c.into_iter-field-iterator.result in
    let e : it.a.rest.now ≡ all = ap (λ z. z.a.rest.now) c.into_iter-field-iterator.ensures.into_iter_gives ∙ ap (λ z. z.rest.now) c.zip-field-items.ensures.first ∙ c.iter.ensures.rest in
    let h : it.b.rest.now ≡ every = ap (λ z. z.b.rest.now) c.into_iter-field-iterator.ensures.into_iter_gives ∙ c.zip-field-items.ensures.second.0 in
    let v = ap (λ xs. count_within (slots_in xs)) h in (
      ap (λ fs. field_types (field_list_of fs)) e ∙ c.requires ∙ sym (ap types_in h),
      omega (arith, v),
      λ plain. (
        [],
        record { wrote = writes_in_calls_nil _ _; plain = plain },
        ap (λ fs. json_members (field_list_of fs) false (slots_in it.b.rest.now)) e ∙ ap (λ xs. json_members (field_list_of all) false (slots_in xs)) h,
      ),
    )

pub write_scalar_members-write_scalar-requires : goal.write_scalar_members-write_scalar-requires
write_scalar_members-write_scalar-requires g t c κs within =
    let l = c.loop-field.field-iterator in
    let (typed, lighter, text) = c.loop-field.invariant in
    let x = first-value c.in-Some.value.now c.in-Some.field.now l.a.rest.now c.next.new.self.a.rest.now l.b.rest.now c.next.new.self.b.rest.now c.in-Some.ensures.steps.0 c.in-Some.ensures.steps.1 typed in
    (omega (arith, x.lighter, lighter), within)

pub write_scalar_members-loop-field-preserved : goal.write_scalar_members-loop-field-preserved
write_scalar_members-loop-field-preserved g t c =
    let l = c.loop-field.field-iterator in
    let (typed, lighter, text) = c.loop-field.invariant in
    let e = c.in-Some.ensures.steps.0 in
    let h = c.in-Some.ensures.steps.1 in
    let x = first-value c.in-Some.value.now c.in-Some.field.now l.a.rest.now c.next.new.self.a.rest.now l.b.rest.now c.next.new.self.b.rest.now e h typed in (
      x.rest_typed,
      omega (arith, x.lighter, lighter),
      λ plain.
          let (done, wrote, whole) = text plain in
          let one = c.write_comma.ensures wrote.plain (search rules) in
          let two = c.write_quoted.ensures one.plain (search rules) in
          let three = c.write_str.ensures.writes two.plain (search rules) in
          let four = c.write_scalar.ensures three.plain (search rules) in (
            (((done ++ comma c.loop-field.after) ++ quoted c.name.result.now) ++ codes ":") ++ json_of_slot c.in-Some.value.now.data_type c.in-Some.value.now.slot,
            has_written_append _ _ _ _ _ _ (has_written_append _ _ _ _ _ _ (has_written_append _ _ _ _ _ _ (has_written_append _ _ _ _ _ _ wrote one) two) three) four,
            value-text c.in-Some.value.now c.in-Some.field.now l.a.rest.now c.next.new.self.a.rest.now l.b.rest.now c.next.new.self.b.rest.now c.loop-field.after done _ _ e h x.typed c.name.ensures whole,
          ),
    )

pub write_scalar_members-returns : goal.write_scalar_members-returns
write_scalar_members-returns g t c plain ok =
    let l = c.loop-field.field-iterator in
    let (typed, lighter, text) = c.loop-field.invariant in
    let (done, wrote, whole) = text plain in
    has_written_of_eq _ _ _ _ _ (values-none l.a.rest.now l.b.rest.now c.loop-field.after done _ typed (elim c.in-None.ensures.steps [ inl x ↦ inl x.1.0 | inr x ↦ inr x.1.0 ]) whole) wrote

pub write_scalar-write_scalar_members-requires : goal.write_scalar-write_scalar_members-requires
write_scalar-write_scalar_members-requires g t c κs within =
    let dt = c.args.scalar.now.data_type in
    let fits = subst (ValueFits dt) c.in-Struct.is c.value.ensures.fits in
    let w = ap node_count (sym c.value.ensures.slot ∙ ap slot_of_value c.in-Struct.is) in
    let seen : c.deref-in-Struct.result.now ≡ c.in-Struct.values.items = c.deref-in-Struct.ensures.value in
    let v = ap (λ vs. count_within (slots_in vs)) seen in
    (omega (arith, w, v), (within, ap field_types (c.members.ensures ∙ ap members_of c.data_type-in-Struct.ensures ∙ sym (members-shown dt)) ∙ fits ∙ ap types_in (sym seen)))

pub write_scalar-returns-in-List : goal.write_scalar-returns-in-List
write_scalar-returns-in-List g t c plain ok =
    let dt = c.args.scalar.now.data_type in
    let fits = subst (ValueFits dt) c.in-List.is c.value.ensures.fits in
    has_written_of_eq _ _ _ _ _ (items-text dt (layout_of c.in-List.items) _ _ c.len.ensures fits (sym (ap slot_of_value c.in-List.is) ∙ c.value.ensures.slot)) (c.write_array.ensures plain ok)

pub write_scalar-write_native-requires : goal.write_scalar-write_native-requires
write_scalar-write_native-requires g t c =
    let dt = c.args.scalar.now.data_type in
    let fits = subst (ValueFits dt) c.in-Native.is c.value.ensures.fits in
    subst (λ v. has_format (native_kind c.in-Native.value) v ≡ true) (ap format_of_type (sym c.data_type.ensures) ∙ sym c.of_type.ensures) (shown-format-fits dt (native_kind c.in-Native.value) fits)

pub write_scalar-returns-in-Native : goal.write_scalar-returns-in-Native
write_scalar-returns-in-Native g t c plain ok =
    let dt = c.args.scalar.now.data_type in
    has_written_of_eq _ _ _ _ _
    (ap (λ v. json_of_value v (native_numbers c.in-Native.value)) (c.of_type.ensures ∙ ap format_of_type c.data_type.ensures)
    ∙ ap (json_of_slot dt) (sym (ap slot_of_value c.in-Native.is) ∙ c.value.ensures.slot))
    (c.write_native.ensures plain ok)
