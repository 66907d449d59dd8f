use Rattle.std.proofs.Common.{true, ap, ◌∙◌}
use Rattle.nest_memory.specs.TypeOf.{type_of}
use Rattle.nest_array.specs.Seen.{layout_of}
use Rattle.nest_model.specs.FactLaws.{list-facts}
use Rattle.nest_model.specs.Nullness.{null_count}
use Rattle.nest_flat.specs.NullCounts.{unset-nulls}
use Rattle.nest_array.proofs.list.large.LargeListArray.null_count.Goals as goal

pub returns : goal.returns
returns c = c.null_count.ensures ∙ unset-nulls c.self.inside.ranges.validity _ (list-facts true (type_of c.self.inside.data_type) c.self.inside.ranges.offsets (layout_of c.self.inside.values.value) c.self.inside.ranges.validity c.self.invariant).bits ∙ ap null_count c.self.view_is
