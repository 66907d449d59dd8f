use Rattle.std.proofs.Common.{◌∙◌, sym}
use Rattle.nest_memory.specs.TypeOf.{type_of}
use Rattle.nest_model.specs.Layout as layouts
use Rattle.nest_model.specs.NullKinds.{null-parts}
use Rattle.nest_array.proofs.null.NullArray.nulls.Goals as goal

pub returns-clause-ok : goal.returns-clause-ok
returns-clause-ok c =
    c.new.ensures ∙ (λ i. layouts.null (c.in_ok-clone.ensures.ok i) c.args.length) ∙ sym (null-parts (type_of c.args.data_type.now) c.args.length c.args.fill c.requires.kind)
