use Rattle.std.proofs.Common.{◌≤◌, ap, ◌∙◌, arith}
use Rattle.nest_memory.specs.Sublist.{sublist}
use Rattle.nest_memory.specs.TypeOf.{type_of}
use Rattle.nest_model.specs.Layout.{Layout}
use Rattle.nest_model.specs.Meaning.{len, slots_of}
use Rattle.nest_model.specs.Part.{count_rows}
use Rattle.nest_model.specs.Slot as slots
use Rattle.nest_flat.specs.BytesGrowth.{Spans}
use Rattle.nest_flat.proofs.BytesGrown.{binary_made, binary-kind, kind-first}
use Rattle.nest_flat.proofs.binary.mutable.MutableBinaryArray.truncate.Goals as goal

pub returns-clause-slots : goal.returns-clause-slots
returns-clause-slots g c =
    let make = binary_made g.O.Offset.IS_LARGE (type_of c.self.inside.data_type) in
    let k : c.args.n ≤ count_rows c.self.inside.spans.offsets = omega (arith, c.requires, ap len c.self.view_is) in
    ap (λ (r : Spans). slots_of (make r)) c.rollback.ensures
    ∙ kind-first make slots.bytes (binary-kind _ _) c.self.inside.spans c.args.n c.known.ensures.spans k
    ∙ ap (λ (a : Layout). sublist (slots_of a) 0 c.args.n) c.self.view_is
