use Rattle.std.proofs.Common.{ap, ◌∙◌}
use Rattle.std.proofs.lemmas.Result.{IfOk-weaker}
use Rattle.nest_memory.specs.TypeOf.{type_of}
use Rattle.nest_memory.specs.TypeTree.{size_of}
use Rattle.nest_model.specs.Accessors.{child_of}
use Rattle.nest_model.specs.Slice.{slice_layout}
use Rattle.nest_model.specs.Layout.{layout_type}
use Rattle.nest_array.specs.Seen.{layout_of}
use Rattle.nest_array.proofs.FixedSizes.{size-items}
use Rattle.nest_array.proofs.fixed_size_list.FixedSizeListArray.value.Goals as goal

pub returns-clause-items : goal.returns-clause-items
returns-clause-items c =
    let child = ap layout_of c.deref.ensures ∙ ap child_of c.self.view_is in
    let size = c.self.invariant.1.0 ∙ ap (λ b. size_of (layout_type b)) c.self.view_is in
    IfOk-weaker c.part.result _ _
    (λ a cut. size-items (type_of c.self.inside.data_type) (layout_of c.self.inside.values.value) c.self.inside.validity c.args.self.now (layout_of a) c.args.i c.self.view_is c.requires
    (cut.parts ∙ (λ j. slice_layout (child j) (c.start-start.ensures.start j) (size j))))
    c.part.ensures.ok
