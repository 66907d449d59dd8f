use Rattle.std.proofs.Common.{ap}
use Rattle.nest_memory.specs.TypeOf.{type_of}
use Rattle.nest_flat.specs.BytesGrowth.{Spans}
use Rattle.nest_flat.proofs.BytesGrown.{text-fits}
use Rattle.nest_flat.proofs.TextParts.{text-same}
use Rattle.nest_flat.proofs.utf8.mutable.MutableUtf8Array.freeze.Goals as goal

pub invariant_of-result : goal.invariant_of-result
invariant_of-result g c =
    let large = g.O.Offset.IS_LARGE in
    let t = type_of c.self.inside.data_type in
    let s = c.self.inside.spans in
    let e = c.in_ok-offsets.ensures.ok in
    text-same large t (type_of c.in_ok-data_type.data_type) s.offsets c.in_ok-offsets.offsets s.bytes c.in_ok-offsets.values s.validity c.in_ok-offsets.validity
    c.in_ok-data_type.ensures.ok (ap (λ (r : Spans). r.offsets) e) (ap (λ (r : Spans). r.bytes) e) (ap (λ (r : Spans). r.validity) e)
    (text-fits large t s c.known.ensures.spans c.self.invariant.1 c.self.invariant.0)
