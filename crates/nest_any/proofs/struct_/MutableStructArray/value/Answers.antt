use Rattle.std.specs.Prelude.{Some}
use Rattle.std.proofs.Common.{◌<◌, length, refl, ap, ◌∙◌, arith}
use Rattle.nest_model.specs.BuilderTree.{struct}
use Rattle.nest_any.specs.Lent.{builder_at, with_field}
use Rattle.nest_any.specs.Refusals.{count_builders, struct_children}
use Rattle.nest_any.specs.Trees.{tree_of}
use Rattle.nest_any.proofs.Lent.{each-at, each-set}
use Rattle.nest_any.proofs.Types.{children-count}
use Rattle.nest_any.proofs.struct_.MutableStructArray.value.Goals as goal

pub index_mut-requires : goal.index_mut-requires
index_mut-requires c =
    let b = c.self.inside in
    omega (arith, c.requires, children-count tree_of b.values.items, ap (λ t. count_builders (struct_children t)) c.self.view_is, b.values.ok.0)

pub returns : goal.returns
returns c =
    let b = c.self.inside in
    let l : c.args.i < length b.values.items = omega (arith, c.requires, children-count tree_of b.values.items, ap (λ t. count_builders (struct_children t)) c.self.view_is) in (
      (refl, λ w. ap (struct b.data_type b.rows) (each-set tree_of b.values.items c.args.i w) ∙ ap (λ t. with_field t c.args.i (tree_of w)) c.self.view_is),
      record {
        writes_back = tt;
        value = ap (λ x. Some (tree_of x)) c.index_mut.ensures.value ∙ (each-at tree_of b.values.items c.args.i c.index_mut.result.now l ∙ ap (λ t. builder_at (struct_children t) c.args.i) c.self.view_is);
      },
    )
