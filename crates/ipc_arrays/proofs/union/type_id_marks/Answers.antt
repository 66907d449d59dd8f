use Rattle.std.specs.Prelude.{pos}
use Rattle.std.proofs.Common.{get_or, refl, ◌∙◌, rules, w32, true, length-set}
use Rattle.std.proofs.lemmas.Int.{to_z-of_z}
use Rattle.std.proofs.lemmas.List.Sums.{AllPass-from_list_all}
use mir.Val.{SFits}
use Rattle.nest_model.specs.Checks.{type_count}
use Rattle.ipc_arrays.specs.Decoding.{is_index_below}
use Rattle.ipc_arrays.proofs.Marks.{none_marked, mark_written, id_is}
use Rattle.ipc_arrays.proofs.union.type_id_marks.Goals as goal

pub loop-i-init : goal.loop-i-init
loop-i-init c = (refl, none_marked)

pub loop-i-preserved : goal.loop-i-preserved
loop-i-preserved c =
    let p = id_is (get_or c.args.ids.now c.loop-i.i (pos 0)) (AllPass-from_list_all (λ z. is_index_below z type_count) c.args.ids.now c.requires c.loop-i.i (pos 0) c.loop-i-test.true) in
    let fits : SFits w32 (get_or c.args.ids.now c.loop-i.i (pos 0)) = search rules in
    rw (to_z-of_z w32 (get_or c.args.ids.now c.loop-i.i (pos 0)) fits, p.1)
    (length-set c.loop-i.marks p.0 true ∙ c.loop-i.invariant.0, mark_written c.loop-i.marks c.args.ids.now c.loop-i.i p.0 (pos p.0) (pos 0) c.loop-i.invariant.0 c.loop-i-test.true p.1 refl p.2 c.loop-i.invariant.1)
