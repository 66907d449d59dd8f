use Rattle.std.proofs.Common.{true, ap, subst, ◌∙◌}
use Rattle.std.proofs.lemmas.Result.{IfOk-weaker}
use Rattle.nest_memory.specs.TypeOf.{type_of}
use Rattle.nest_model.specs.Accessors.{child_of}
use Rattle.nest_model.specs.Slice.{slice_layout}
use Rattle.nest_array.specs.Seen.{layout_of}
use Rattle.nest_array.proofs.Lists.{IsByOffsets, list-by_offsets, slot-items}
use Rattle.nest_array.proofs.list.large.LargeListArray.value.Goals as goal

pub returns-clause-items : goal.returns-clause-items
returns-clause-items c =
    let child = ap layout_of c.deref-values.ensures ∙ ap child_of c.self.view_is in
    IfOk-weaker c.part.result _ _
    (λ a cut. slot-items c.args.self.now (layout_of a) c.args.i
    (subst IsByOffsets c.self.view_is (list-by_offsets true (type_of c.self.inside.data_type) c.self.inside.ranges.offsets (layout_of c.self.inside.values.value) c.self.inside.ranges.validity c.self.invariant)) c.requires
    (cut.parts ∙ (λ j. slice_layout (child j) (c.range-start.ensures.start j) (c.range-start.ensures.count j))))
    c.part.ensures.ok
