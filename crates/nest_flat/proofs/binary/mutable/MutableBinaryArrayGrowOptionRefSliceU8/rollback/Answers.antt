use Rattle.std.proofs.Common.{ap, sym, ◌∙◌}
use Rattle.nest_memory.specs.TypeOf.{type_of}
use Rattle.nest_model.specs.Layout.{Layout}
use Rattle.nest_model.specs.Slot as slots
use Rattle.nest_flat.specs.Growth.{rolled_back}
use Rattle.nest_flat.proofs.BytesGrown.{binary_made, binary-kind, kind-taken}
use Rattle.nest_flat.proofs.binary.mutable.MutableBinaryArrayGrowOptionRefSliceU8.rollback.Goals as goal

pub returns : goal.returns
returns g c =
    let make = binary_made g.O.Offset.IS_LARGE (type_of c.self.inside.data_type) in
    ap make c.rollback.ensures
    ∙ sym (kind-taken make slots.bytes (binary-kind _ _) c.self.inside.spans c.args.n c.args.masked)
    ∙ ap (λ (a : Layout). rolled_back a c.args.n c.args.masked) c.self.view_is
