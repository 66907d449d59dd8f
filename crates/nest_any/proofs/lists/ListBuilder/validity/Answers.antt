use Rattle.std.proofs.Common.{ap, sym, subst, ◌∙◌}
use Rattle.nest_build.specs.Shown.{ShowsNulls}
use Rattle.nest_model.specs.BuilderTree.{builder_len}
use Rattle.nest_any.specs.Trees.{tree_of}
use Rattle.nest_any.proofs.TellLaws.{rows-count}
use Rattle.nest_any.proofs.lists.ListBuilder.validity.Goals as goal

pub returns-clause-nulls : goal.returns-clause-nulls
returns-clause-nulls c =
    let b = tree_of c.self.inside.values.value in
    subst (ShowsNulls _) c.self.view_is (c.validity.ensures.nulls b)

pub returns-clause-none : goal.returns-clause-none
returns-clause-none c = λ e. c.validity.ensures.none (rows-count c.self.inside.rows (tree_of c.self.inside.values.value) ∙ ap builder_len c.self.view_is ∙ e)
