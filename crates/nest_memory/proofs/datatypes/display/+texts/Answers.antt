use Rattle.std.specs.Prelude.{option_map}
use Rattle.std.specs.Fmt.{signed_decimal}
use Rattle.std.proofs.Common.{[], ◌++◌, codes, refl, rules, arith}
use Rattle.std.proofs.Output.{has_written_append, has_written_of_eq, writes_in_calls_nil}
use Rattle.nest_memory.specs.TypeOf.{field_of}
use Rattle.nest_memory.specs.TypeText.{text_of_field, id_at}
use Rattle.nest_memory.proofs.TypeTexts.{fields-step, fields-end, parts-two, parts-other, picks-step, picks-end}
use Rattle.nest_memory.proofs.datatypes.display.+texts.Goals as goal

pub write_fields-loop-field-init : goal.write_fields-loop-field-init
write_fields-loop-field-init g t c plain = ([], record { wrote = writes_in_calls_nil _ _; plain = plain }, refl)

pub write_fields-loop-field-preserved : goal.write_fields-loop-field-preserved
write_fields-loop-field-preserved g t c plain =
    let (done, wrote, whole) = c.loop-field.invariant plain in
    let one = c.write_str-in-loop-field.ensures.writes wrote.plain (search rules) in
    let two = c.write_field.ensures one.plain (search rules) in (
      (done ++ c.separator.result.now) ++ text_of_field (field_of c.field-item.result),
      has_written_append _ _ _ _ _ _ (has_written_append _ _ _ _ _ _ wrote one) two,
      fields-step c.args.fields.now c.loop-field.field-index c.field-item.result c.loop-field.after done c.separator.result.now _ c.loop-field-test.true c.field-item.is c.separator.ensures whole,
    )

pub write_fields-returns : goal.write_fields-returns
write_fields-returns g t c plain ok =
    let one = c.write_str.ensures.writes plain (search rules) in
    let (done, wrote, whole) = c.loop-field.invariant one.plain in
    let two = c.write_str-2.ensures.writes wrote.plain ok in
    has_written_of_eq _ _ _ _ _ (fields-end c.args.fields.now c.loop-field.field-index c.loop-field.after c.args.head.now done c.loop-field-test.false whole) (has_written_append _ _ _ _ _ _ (has_written_append _ _ _ _ _ _ one wrote) two)

pub write_union-loop-k-init : goal.write_union-loop-k-init
write_union-loop-k-init g t c plain = ([], record { wrote = writes_in_calls_nil _ _; plain = plain }, refl)

pub write_union-loop-k-preserved : goal.write_union-loop-k-preserved
write_union-loop-k-preserved g t c plain =
    let ids = option_map (λ v. v.items) c.args.ids.now in
    let k = c.loop-k.k in
    let x = c.index-fields-k.result in
    let (done, wrote, whole) = c.loop-k.invariant plain in
    let one = c.write_str-in-loop-k.ensures.writes wrote.plain (search rules) in
    let two = c.write_field.ensures one.plain (search rules) in
    let three = c.write_str-in-loop-k-2.ensures.writes two.plain (search rules) in
    let four = c.write_id.ensures three.plain (search rules) in (
      (((done ++ c.separator.result.now) ++ text_of_field (field_of x)) ++ codes "=") ++ signed_decimal (id_at ids k),
      has_written_append _ _ _ _ _ _ (has_written_append _ _ _ _ _ _ (has_written_append _ _ _ _ _ _ (has_written_append _ _ _ _ _ _ wrote one) two) three) four,
      picks-step ids c.args.fields.now k x done c.separator.result.now _ (omega arith) c.index-fields-k.is c.separator.ensures whole,
    )

pub write_union-returns : goal.write_union-returns
write_union-returns g t c plain ok =
    let one = c.write_str.ensures.writes plain (search rules) in
    let (done, wrote, whole) = c.loop-k.invariant one.plain in
    let two = c.write_str-2.ensures.writes wrote.plain ok in
    has_written_of_eq _ _ _ _ _ (picks-end (option_map (λ v. v.items) c.args.ids.now) c.args.fields.now c.loop-k.k c.args.head.now done (omega arith) whole) (has_written_append _ _ _ _ _ _ (has_written_append _ _ _ _ _ _ one wrote) two)

pub write_parts-returns-then-fields-ne2 : goal.write_parts-returns-then-fields-ne2
write_parts-returns-then-fields-ne2 g t c plain ok =
    has_written_of_eq _ _ _ _ _ (parts-other c.args.fields.now c.if-fields-ne2.true) (search rules)

pub write_parts-returns : goal.write_parts-returns
write_parts-returns g t c plain ok =
    let one = c.write_part.ensures plain (search rules) in
    let two = c.write_str.ensures.writes one.plain (search rules) in
    let three = c.write_part-2.ensures two.plain ok in
    has_written_of_eq _ _ _ _ _ (parts-two c.args.fields.now _ _ c.if-fields-ne2.false c.index-fields-0.is c.index-fields-1.is)
    (has_written_append _ _ _ _ _ _ (has_written_append _ _ _ _ _ _ one two) three)
