use Rattle.std.proofs.Common.{ap, sym, ◌∙◌}
use Rattle.nest_model.specs.Meaning.{run, slot}
use Rattle.nest_flat.specs.BareSlots.{bare, len_bare, slots-bare, same-along}
use Rattle.nest_flat.proofs.flat_array.same_slots.Goals as goal

pub returns-then-nulls-eq0-2 : goal.returns-then-nulls-eq0-2
returns-then-nulls-eq0-2 g c =
    let a = g.A.FlatArray.layout c.args.a in
    let b = g.A.FlatArray.layout c.args.b in
    same-along _ _ _ _ _ (ap (run (slot (bare a)) 0) (c.count-n.ensures ∙ sym (len_bare a)) ∙ slots-bare a (sym c.nulls.ensures ∙ c.if-nulls-eq0.true))
    (ap (run (slot (bare b)) 0) (c.count-n.ensures ∙ c.requires ∙ sym (len_bare b)) ∙ slots-bare b (sym c.nulls-then-nulls-eq0.ensures ∙ c.if-nulls-eq0-2.true))
    c.same_values.ensures

pub returns : goal.returns
returns g c =
    same-along _ _ _ _ _ (ap (run (slot (g.A.FlatArray.layout c.args.a)) 0) c.count-n.ensures)
    (ap (run (slot (g.A.FlatArray.layout c.args.b)) 0) (c.count-n.ensures ∙ c.requires)) c.each_same_slot.ensures
