use Rattle.std.proofs.Common.{ap, ◌∙◌}
use Rattle.nest_model.specs.Nullness.{null_count}
use Rattle.nest_flat.specs.NullCounts.{unset-nulls}
use Rattle.nest_flat.proofs.boolean.BooleanArray.null_count.Goals as goal

pub returns : goal.returns
returns c = c.null_count.ensures ∙ unset-nulls c.self.inside.validity _ c.self.invariant.1.0 ∙ ap null_count c.self.view_is
