use Rattle.std.specs.Prelude.{false}
use Rattle.std.proofs.Common.{ap, ◌∙◌}
use Rattle.std.proofs.lemmas.Result.{IfOk-weaker}
use Rattle.nest_array.specs.Seen.{layout_of}
use Rattle.nest_memory.specs.TypeOf.{type_of}
use Rattle.nest_model.specs.Meaning.{slots_of}
use Rattle.nest_build.proofs.Spelled.{spelled-fits, spelled-slots}
use Rattle.nest_build.proofs.list.width.ListRowsI32FrozenRows.freeze_over.Goals as goal

pub new-requires : goal.new-requires
new-requires c = spelled-fits false (type_of c.args.data_type) c.in-Ok.offsets (layout_of c.args.values) c.in-Ok.validity c.args.self.now c.in-Ok.ensures.ok c.requires.lists c.requires.items c.requires.covers

pub returns-in-Ok-clause-slots : goal.returns-in-Ok-clause-slots
returns-in-Ok-clause-slots c = IfOk-weaker c.new.result _ _ (λ a e. ap slots_of e ∙ spelled-slots false (type_of c.args.data_type) c.in-Ok.offsets (layout_of c.args.values) c.in-Ok.validity c.args.self.now c.in-Ok.ensures.ok c.requires.covers) c.new.ensures.ok
