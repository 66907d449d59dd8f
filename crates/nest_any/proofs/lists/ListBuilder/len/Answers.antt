use Rattle.std.proofs.Common.{◌∙◌, ap}
use Rattle.nest_model.specs.BuilderTree.{builder_len}
use Rattle.nest_any.specs.Trees.{tree_of}
use Rattle.nest_any.proofs.TellLaws.{rows-count}
use Rattle.nest_any.proofs.lists.ListBuilder.len.Goals as goal

pub returns : goal.returns
returns c =
    let b = tree_of c.self.inside.values.value in
    c.len.ensures ∙ rows-count c.self.inside.rows b ∙ ap builder_len c.self.view_is
