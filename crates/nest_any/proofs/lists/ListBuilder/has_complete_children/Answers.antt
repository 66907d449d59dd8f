use Rattle.std.proofs.Common.{ap, subst, sym}
use Rattle.nest_model.specs.BuilderAddRow.{HasCompleteChildren}
use Rattle.nest_model.specs.BuilderComplete.{IsComplete}
use Rattle.nest_any.specs.Trees.{tree_of}
use Rattle.nest_any.proofs.TellLaws.{child_is_complete}
use Rattle.nest_any.proofs.lists.ListBuilder.has_complete_children.Goals as goal

pub returns : goal.returns
returns c =
    let b = tree_of c.self.inside.values.value in
    let v = ap tree_of c.deref.ensures in (
      λ t. subst HasCompleteChildren c.self.view_is (c.known.ensures.rising b (subst IsComplete v (c.complete.ensures.0 t))),
      λ w. c.complete.ensures.1 (subst IsComplete (sym v) (child_is_complete c.self.inside.rows b (subst HasCompleteChildren (sym c.self.view_is) w))),
    )
