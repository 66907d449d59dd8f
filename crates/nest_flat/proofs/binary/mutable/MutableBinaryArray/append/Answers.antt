use Rattle.std.proofs.Common.{◌++◌, ap, ◌∙◌}
use Rattle.std.proofs.lemmas.Result.{on_ok_weaker}
use Rattle.nest_memory.specs.TypeOf.{type_of}
use Rattle.nest_model.specs.Meaning.{slots_of}
use Rattle.nest_model.specs.Slot as slots
use Rattle.nest_flat.specs.BytesGrowth.{Spans}
use Rattle.nest_flat.proofs.BytesGrown.{binary_made, binary-kind, kind-joined}
use Rattle.nest_flat.proofs.binary.mutable.MutableBinaryArray.append.Goals as goal

pub returns-clause-slots : goal.returns-clause-slots
returns-clause-slots g c =
    let make = binary_made g.O.Offset.IS_LARGE (type_of c.self.inside.data_type) in
    on_ok_weaker c.try_extend_from_self.result
    (λ e. ap (λ (r : Spans). slots_of (make r)) e
    ∙ kind-joined make slots.bytes (binary-kind _ _) c.self.inside.spans c.other.inside.spans c.known.ensures.spans c.known-2.ensures.spans
    ∙ (λ j. slots_of (c.self.view_is j) ++ slots_of (c.other.view_is j)))
    c.try_extend_from_self.ensures.ok
