use Rattle.std.proofs.Common.{◌∙◌, sym}
use Rattle.nest_memory.specs.TypeOf.{type_of}
use Rattle.nest_model.specs.Layout as layouts
use Rattle.nest_model.specs.NullKinds.{boolean-parts}
use Rattle.nest_flat.proofs.boolean.BooleanArray.of_nulls.Goals as goal

pub returns-clause-ok : goal.returns-clause-ok
returns-clause-ok c =
    (λ i. layouts.boolean (c.in_ok-clone.ensures.ok i) (c.in_ok-bits.ensures.ok i) (c.in_ok-validity.ensures.ok i))
    ∙ sym (boolean-parts (type_of c.args.data_type.now) c.args.length c.args.fill c.requires)
