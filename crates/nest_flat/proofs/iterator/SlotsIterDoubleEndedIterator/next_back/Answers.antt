use Rattle.std.proofs.Common.{◌<◌, [], ◌∷◌, ◌++◌, ◌-◌, ap, sym, ◌∙◌, arith}
use Rattle.nest_model.specs.Meaning.{run, slot}
use Rattle.nest_flat.proofs.SlotRuns.{run-last}
use Rattle.nest_flat.proofs.iterator.SlotsIterDoubleEndedIterator.next_back.Goals as goal

pub returns-clause-steps : goal.returns-clause-steps
returns-clause-steps g c =
    let f = slot (g.S.SlotItems.array c.prepared-self-inside.result) in
    let more : c.self.inside.front < c.self.inside.back = omega (arith, c.self.invariant.0, c.if-self.false) in
    sym c.self.view_is
    ∙ ap (λ a. run (slot a) c.self.inside.front (c.self.inside.back - c.self.inside.front)) (sym c.prepared-self-inside.ensures)
    ∙ run-last f c.self.inside.front c.self.inside.back more
    ∙ ap (λ s. run f c.self.inside.front (c.self.inside.back - 1 - c.self.inside.front) ++ s ∷ []) (sym c.item-item.ensures)
