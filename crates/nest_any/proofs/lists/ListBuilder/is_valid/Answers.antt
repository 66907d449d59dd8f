use Rattle.std.specs.Prelude.{◌↔◌, ◌≢◌, IsTrue}
use Rattle.std.proofs.Common.{ap, subst, arith}
use Rattle.nest_model.specs.BuilderTree.{builder_len}
use Rattle.nest_model.specs.Slot as slots
use Rattle.nest_build.specs.Shown.{own_slot}
use Rattle.nest_any.specs.Trees.{tree_of}
use Rattle.nest_any.proofs.TellLaws.{rows-count}
use Rattle.nest_any.proofs.lists.ListBuilder.is_valid.Goals as goal

pub is_valid-requires : goal.is_valid-requires
is_valid-requires c =
    let b = tree_of c.self.inside.values.value in
    omega (arith, c.requires, rows-count c.self.inside.rows b, ap builder_len c.self.view_is)

pub returns : goal.returns
returns c =
    let b = tree_of c.self.inside.values.value in
    subst (λ x. IsTrue c.is_valid.result ↔ (own_slot x c.args.i ≢ slots.null)) c.self.view_is (c.is_valid.ensures b)
