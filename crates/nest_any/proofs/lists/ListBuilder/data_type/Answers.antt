use Rattle.std.proofs.Common.{◌∙◌, ap}
use Rattle.nest_model.specs.BuilderTree.{builder_type}
use Rattle.nest_any.specs.Trees.{tree_of}
use Rattle.nest_any.proofs.lists.ListBuilder.data_type.Goals as goal

pub returns : goal.returns
returns c =
    let b = tree_of c.self.inside.values.value in
    c.data_type.ensures b ∙ ap builder_type c.self.view_is
