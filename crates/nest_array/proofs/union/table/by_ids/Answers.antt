use Rattle.std.specs.Prelude.{pos}
use Rattle.std.proofs.Common.{get_or, refl, ◌∙◌, rules, w32, length-set}
use Rattle.std.proofs.lemmas.Int.{to_z-of_z}
use Rattle.std.proofs.lemmas.List.{get_or-replicate}
use Rattle.std.proofs.lemmas.List.Elements.{All-get_or}
use mir.Val.{SFits}
use Rattle.nest_model.specs.Fits.{Names}
use Rattle.nest_array.proofs.Tables.{id-written, named-place}
use Rattle.nest_array.proofs.union.table.by_ids.Goals as goal

pub loop-i-init : goal.loop-i-init
loop-i-init c = (refl, λ k h. get_or-replicate 128 k 127 127 h)

pub loop-i-preserved : goal.loop-i-preserved
loop-i-preserved c =
    let p = named-place _ (All-get_or (λ z. Names z 128) c.args.ids.now c.loop-i.i (pos 0) c.loop-i-test.true c.requires.range) in
    let fits : SFits w32 (get_or c.args.ids.now c.loop-i.i (pos 0)) = search rules in
    rw (to_z-of_z w32 (get_or c.args.ids.now c.loop-i.i (pos 0)) fits, p.1)
    (length-set c.loop-i.table p.0 c.loop-i.i ∙ c.loop-i.invariant.0, id-written c.loop-i.table c.args.ids.now c.loop-i.i p.0 (pos p.0) (pos 0) c.loop-i.invariant.0 c.loop-i-test.true p.1 refl p.2 c.loop-i.invariant.1)
