use Rattle.std.proofs.Common.{ap, ◌∙◌}
use Rattle.nest_memory.specs.TypeOf.{type_of}
use Rattle.nest_array.specs.Seen.{layouts_of}
use Rattle.nest_model.specs.FactLaws.{struct-facts}
use Rattle.nest_model.specs.Nullness.{null_count}
use Rattle.nest_flat.specs.NullCounts.{unset-nulls}
use Rattle.nest_array.proofs.struct_.StructArray.null_count.Goals as goal

pub returns : goal.returns
returns c = c.null_count.ensures ∙ unset-nulls c.self.inside.validity _ (struct-facts (type_of c.self.inside.data_type) (layouts_of c.self.inside.values.items) c.self.inside.validity c.self.invariant.0).bits ∙ ap null_count c.self.view_is
