use Rattle.std.proofs.Common.{◌<◌, ap, sym, ◌∙◌, arith, length}
use Rattle.nest_model.specs.Meaning.{slots_of}
use Rattle.nest_model.specs.Reads.{slots-length, slot-place}
use Rattle.nest_model.specs.Slot as slots
use Rattle.nest_take.proofs.Masks.{mask-all, mask-no, mask-yes}
use Rattle.nest_take.proofs.mask.indices_of.Goals.{then-unwrap_or+in_ok-push, else-unwrap_or}
use Rattle.nest_take.proofs.mask.indices_of.Goals as goal

pub loop-i-preserved : goal.loop-i-preserved
loop-i-preserved c =
    let a = c.args.mask.now in
    let ss = slots_of a in
    let i = c.loop-i.i in
    let h : i < length ss = omega (arith, slots-length a) in
    let e = c.get.ensures ∙ sym (slot-place a i slots.null (omega arith)) in
    elim c.if-unwrap_or.branch [ then-unwrap_or+in_ok-push w ↦ ap (λ v. v.items) w.indices-is ∙ w.in_ok-push.ensures.items ∙ mask-yes _ _ c.loop-i.indices.items i ss h e c.unwrap_or.ensures c.loop-i.invariant w.if-unwrap_or.true | else-unwrap_or w ↦ ap (λ v. v.items) w.indices-is ∙ mask-no _ _ c.loop-i.indices.items i ss h e c.unwrap_or.ensures c.loop-i.invariant w.if-unwrap_or.false ]

pub returns-clause-ok : goal.returns-clause-ok
returns-clause-ok c = c.loop-i.invariant ∙ mask-all c.loop-i.i (slots_of c.args.mask.now) (omega (arith, slots-length c.args.mask.now))
