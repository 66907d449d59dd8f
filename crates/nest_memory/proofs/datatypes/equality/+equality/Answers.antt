use Rattle.std.proofs.Common.{◌≡◌, ◌<◌, length, ap, sym, ◌∙◌, arith}
use Rattle.nest_memory.specs.TypeOf.{field_of}
use Rattle.nest_memory.proofs.Alike.{fields-length, fields-at}
use Rattle.nest_memory.proofs.datatypes.equality.+equality.Goals as goal

pub same_fields-returns-then-len : goal.same_fields-returns-then-len
same_fields-returns-then-len t c = (λ h. cc, λ h. let e = fields-length _ _ h in absurd (omega arith))

pub same_fields-returns-then-not-same_field : goal.same_fields-returns-then-not-same_field
same_fields-returns-then-not-same_field t c = (
  λ h. cc,
  λ h.
      let lt : c.loop-i.i < length c.args.a.now.items = omega arith in
      let e = fields-at _ _ h c.loop-i.i c.index.result.now c.index-in-loop-i.result.now lt in
      let q : field_of c.index.result.now ≡ field_of c.index-in-loop-i.result.now = ap field_of c.index.ensures ∙ e ∙ sym (ap field_of c.index-in-loop-i.ensures) in
      let r = c.same_field.ensures.1 q in
      cc,
)
