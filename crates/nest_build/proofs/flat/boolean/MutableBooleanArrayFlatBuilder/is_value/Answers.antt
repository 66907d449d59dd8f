use Rattle.std.specs.Prelude.{slice_get}
use Rattle.std.proofs.Common.{ap, sym, ◌∙◌}
use Rattle.nest_flat.specs.Plain.{plain_value}
use Rattle.nest_build.proofs.FlatTrees.{null-holds, truth-holds}
use Rattle.nest_build.proofs.flat.boolean.MutableBooleanArrayFlatBuilder.is_value.Goals as goal

pub returns-then-is_valid : goal.returns-then-is_valid
returns-then-is_valid c =
    truth-holds c.args.self.now c.args.i (plain_value c.args.value.now) c.in-Boolean.truth c.get.result c.known.ensures.fits c.known.ensures.kind c.requires (ap plain_value c.in-Boolean.is)
    (sym c.is_valid.ensures ∙ c.if-is_valid.true) (ap (λ bs. slice_get bs c.args.i) (sym c.values.ensures) ∙ c.get.ensures)

pub returns-else-is_valid : goal.returns-else-is_valid
returns-else-is_valid c = null-holds c.args.self.now c.args.i (plain_value c.args.value.now) c.is_valid.result c.requires c.is_valid.ensures c.if-is_valid.false
