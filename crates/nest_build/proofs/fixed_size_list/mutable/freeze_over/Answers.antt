use Rattle.std.proofs.Common.{ap, ◌∙◌}
use Rattle.std.proofs.lemmas.Result.{IfOk-weaker}
use Rattle.nest_array.specs.Seen.{layout_of}
use Rattle.nest_memory.specs.TypeOf.{type_of}
use Rattle.nest_model.specs.Meaning.{slots_of}
use Rattle.nest_build.proofs.FixedLists.{rows-fit, rows-frozen}
use Rattle.nest_build.proofs.fixed_size_list.mutable.freeze_over.Goals as goal

pub new-requires : goal.new-requires
new-requires c = rows-fit (type_of c.args.data_type) c.args.rows.now (layout_of c.args.values) c.in-Ok.validity c.in-Ok._rows c.requires.lists c.requires.some c.requires.items c.requires.covers c.in-Ok.ensures.count c.in-Ok.ensures.bits.1

pub returns-in-Ok-clause-slots : goal.returns-in-Ok-clause-slots
returns-in-Ok-clause-slots c = IfOk-weaker c.new.result _ _ (λ a e. ap slots_of e ∙ rows-frozen (type_of c.args.data_type) c.args.rows.now (layout_of c.args.values) c.in-Ok.validity c.requires.some c.requires.items c.requires.covers c.in-Ok.ensures.bits.0) c.new.ensures.ok
