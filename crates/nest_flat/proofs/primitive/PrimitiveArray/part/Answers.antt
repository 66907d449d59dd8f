use Rattle.std.proofs.Common.{ap, ◌∙◌, map}
use Rattle.nest_memory.specs.Sublist.{sublist}
use Rattle.nest_model.specs.Part.{sliced_validity}
use Rattle.nest_model.specs.SliceLaws.{is-cut}
use Rattle.nest_model.specs.Layout as layouts
use Rattle.nest_flat.specs.Words.{slice_layout}
use Rattle.nest_flat.proofs.Cutting.{map-cut}
use Rattle.nest_flat.proofs.primitive.PrimitiveArray.part.Goals as goal

pub returns-clause-ok : goal.returns-clause-ok
returns-clause-ok g c =
    let num = g.T.NativeType.numbers in
    let values = ap (map num) (c.slice.ensures ∙ ap (λ vs. sublist vs c.args.o c.args.n) c.in_ok-values.ensures.ok) ∙ map-cut num c.self.inside.values c.args.o c.args.n in
    let bits = c.slice-2.ensures ∙ ap (λ v. sliced_validity v c.args.o c.args.n) c.in_ok-validity.ensures.ok in
    is-cut _ _ _ _ c.requires ((λ i. layouts.primitive g.T.NativeType.PRIMITIVE (c.in_ok-clone.ensures.ok i) (values i) (bits i)) ∙ ap (λ a. slice_layout a c.args.o c.args.n) c.self.view_is)
