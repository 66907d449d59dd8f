use Rattle.std.proofs.Common.{refl, ap, ◌∙◌}
use Rattle.nest_model.specs.BuilderTree.{struct}
use Rattle.nest_any.specs.Lent.{with_children}
use Rattle.nest_any.specs.Refusals.{struct_children}
use Rattle.nest_any.specs.Trees.{tree_of, trees_of}
use Rattle.nest_any.proofs.Lent.{each-over}
use Rattle.nest_any.proofs.struct_.MutableStructArray.mut_values.Goals as goal

pub returns : goal.returns
returns c =
    let b = c.self.inside in (
      (refl, λ w. ap (struct b.data_type b.rows) (each-over tree_of b.values.items w b.values.len b.values.ok.0) ∙ ap (λ t. with_children t (trees_of w)) c.self.view_is),
      record {
        writes_back = tt;
        value = ap trees_of c.deref_mut.ensures.value ∙ ap struct_children c.self.view_is;
      },
    )
