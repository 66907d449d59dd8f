use Rattle.std.proofs.Common.{ap, ◌∙◌}
use Rattle.nest_array.specs.Seen.{layout_of}
use Rattle.nest_concat.proofs.Children.{layout-at}
use Rattle.nest_concat.proofs.struct_.child.Goals as goal

pub returns : goal.returns
returns c = ap layout_of c.index-children-f.is ∙ layout-at c.args.children.now c.args.f c.index-children-f.result c.requires
