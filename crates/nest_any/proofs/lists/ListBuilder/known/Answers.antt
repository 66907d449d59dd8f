use Rattle.std.proofs.Common.{◌≡◌, false, subst}
use Rattle.nest_memory.specs.Physical.{physical_type}
use Rattle.nest_model.specs.BuilderItem.{takes}
use Rattle.nest_model.specs.BuilderTree.{builder_type}
use Rattle.nest_model.specs.BuilderAddRow.{HasCompleteChildren}
use Rattle.nest_model.specs.BuilderComplete.{IsComplete}
use Rattle.nest_build.specs.Children.{list_child}
use Rattle.nest_any.specs.Refusals.{IsListBuilder, IsOfLists}
use Rattle.nest_any.specs.Trees.{tree_of}
use Rattle.nest_any.proofs.TellLaws.{child-over, takes-none}
use Rattle.nest_any.proofs.lists.ListBuilder.known.Goals as goal

pub returns-clause-takes : goal.returns-clause-takes
returns-clause-takes c = λ v. subst (λ t. takes t v ≡ false) c.self.view_is (takes-none c.self.inside.rows (tree_of c.self.inside.values.value) v)

pub returns-clause-lists : goal.returns-clause-lists
returns-clause-lists c = subst (λ t. IsOfLists (physical_type (builder_type t))) c.self.view_is (c.known.ensures.lists (tree_of c.self.inside.values.value))

pub returns-clause-nulls : goal.returns-clause-nulls
returns-clause-nulls c =
    let b = tree_of c.self.inside.values.value in
    subst (λ t. IsComplete (list_child t) → HasCompleteChildren t) c.self.view_is (λ w. c.known.ensures.rising b (subst IsComplete (child-over c.self.inside.rows b) w))

pub returns-clause-kind : goal.returns-clause-kind
returns-clause-kind c = subst IsListBuilder c.self.view_is (c.known.ensures.kind (tree_of c.self.inside.values.value))
