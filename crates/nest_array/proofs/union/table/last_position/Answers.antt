use Rattle.std.proofs.Common.{get_or, pos, ap, refl, sym, ◌∙◌, rules, w8, w32}
use Rattle.std.proofs.lemmas.Int.{to_z-of_z}
use mir.Val.{SFits, of_z, to_z}
use Rattle.nest_array.proofs.Tables.{last-on}
use Rattle.nest_array.proofs.union.table.last_position.Goals as goal
use Rattle.nest_array.proofs.union.table.last_position.Goals.{then-ids-k, else-ids-k}

pub loop-k-preserved : goal.loop-k-preserved
loop-k-preserved c =
    let z = to_z w8 (of_z w8 c.args.kind) in
    let x = get_or c.args.ids.now c.loop-k.k (pos 0) in
    let p : SFits w32 x = search rules in
    let e = to_z-of_z w8 c.args.kind c.ranges.kind in
    let q : SFits w32 c.args.kind = search rules in
    elim c.if-ids-k.branch [
      | then-ids-k w ↦
          last-on c.args.ids.now c.loop-k.k c.loop-k.place c.if-ids-k.place x z (pos 0) c.loop-k-test.true refl (λ a. sym w.place-is)
          (λ n. absurd (n (sym (to_z-of_z w32 x p) ∙ ap (to_z w32) (w.if-ids-k.true ∙ ap (of_z w32) e) ∙ to_z-of_z w32 c.args.kind q ∙ sym e))) c.loop-k.invariant
      | else-ids-k w ↦
          last-on c.args.ids.now c.loop-k.k c.loop-k.place c.if-ids-k.place x z (pos 0) c.loop-k-test.true refl (λ a. absurd (w.if-ids-k.false (ap (of_z w32) a)))
          (λ n. sym w.place-is) c.loop-k.invariant
    ]
