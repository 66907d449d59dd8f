use Rattle.std.proofs.Common.{ap, subst, ◌∙◌}
use Rattle.std.proofs.lemmas.Result.{IfOk-weaker}
use Rattle.nest_memory.specs.TypeOf.{type_of}
use Rattle.nest_model.specs.Accessors.{child_of}
use Rattle.nest_model.specs.Slice.{slice_layout}
use Rattle.nest_array.specs.Seen.{layout_of}
use Rattle.nest_array.proofs.Lists.{IsByOffsets, map-by_offsets, slot-items}
use Rattle.nest_array.proofs.map.MapArray.value.Goals as goal

pub returns-clause-items : goal.returns-clause-items
returns-clause-items c =
    let child = ap layout_of c.deref-field.ensures ∙ ap child_of c.self.view_is in
    IfOk-weaker c.part.result _ _
    (λ a cut. slot-items c.args.self.now (layout_of a) c.args.i
    (subst IsByOffsets c.self.view_is (map-by_offsets (type_of c.self.inside.data_type) c.self.inside.ranges.offsets (layout_of c.self.inside.field.value) c.self.inside.ranges.validity c.self.invariant)) c.requires
    (cut.parts ∙ (λ j. slice_layout (child j) (c.range-start.ensures.start j) (c.range-start.ensures.count j))))
    c.part.ensures.ok
