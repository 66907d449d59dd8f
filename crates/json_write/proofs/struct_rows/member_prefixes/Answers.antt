use Rattle.std.proofs.Common.{ap, ◌∙◌, map, string_bytes}
use Rattle.json_write.specs.JsonText.{prefix_of}
use Rattle.json_write.proofs.MemberPrefixes.{comes-next, heads-next}
use Rattle.json_write.proofs.struct_rows.member_prefixes.Goals as goal

pub loop-field-preserved : goal.loop-field-preserved
loop-field-preserved c =
    let (heads, after) = c.loop-field.invariant in
    let head = c.in_ok-format.ensures.ok ∙ ap (prefix_of c.loop-field.after) c.name.ensures in (
      ap (map string_bytes) c.in_ok-push.ensures.items
          ∙ heads-next c.args.fields.now c.loop-field.field-index c.field-item.result c.loop-field.prefixes.items c.in_ok-format.field-0 c.loop-field.after c.loop-field-test.true c.field-item.is heads after head,
      comes-next c.loop-field.field-index,
    )
