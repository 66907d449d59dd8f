use Rattle.std.specs.Prelude.{option_map}
use Rattle.std.proofs.Common.{ap, subst, ◌∙◌}
use Rattle.nest_build.specs.Shown.{ShowsNulls}
use Rattle.nest_model.specs.BuilderTree.{builder_len}
use Rattle.nest_any.specs.Trees.{trees_of}
use Rattle.nest_any.proofs.Records.{records-push_row}
use Rattle.nest_any.proofs.RowLaws.{no-row}
use Rattle.nest_any.proofs.struct_.MutableStructArray.validity.Goals as goal

pub returns-clause-nulls : goal.returns-clause-nulls
returns-clause-nulls c =
    subst (ShowsNulls (option_map (λ b. b.now) c.validity.result)) c.self.view_is
    (records-push_row (option_map (λ b. b.now) c.validity.result) c.self.inside.data_type c.self.inside.rows (trees_of c.self.inside.values.items) c.validity.ensures.bits)

pub returns-clause-none : goal.returns-clause-none
returns-clause-none c = λ e. c.validity.ensures.none (no-row c.self.inside.rows (ap builder_len c.self.view_is ∙ e))
