use Rattle.std.specs.Prelude.{◌≢◌, ◌↔◌, IsTrue}
use Rattle.std.proofs.Common.{◌<◌, sym, subst}
use Rattle.nest_build.specs.Shown.{own_slot}
use Rattle.nest_model.specs.BuilderTree.{builder_len}
use Rattle.nest_model.specs.Slot as slots
use Rattle.nest_any.specs.Trees.{trees_of}
use Rattle.nest_any.proofs.Records.{record-valid}
use Rattle.nest_any.proofs.struct_.MutableStructArray.is_valid.Goals as goal

pub returns : goal.returns
returns c =
    let l = subst (λ b. c.args.i < builder_len b) (sym c.self.view_is) c.requires in
    subst (λ b. IsTrue c.is_valid.result ↔ (own_slot b c.args.i ≢ slots.null)) c.self.view_is
    (record-valid c.self.inside.data_type c.self.inside.rows (trees_of c.self.inside.values.items) c.args.i c.is_valid.result l c.is_valid.ensures)
