use Rattle.std.proofs.Common.{◌≡◌, ap, sym, ◌∙◌, refl, subst, arith}
use Rattle.nest_model.specs.Part.{count_rows}
use Rattle.nest_flat.specs.BytesGrowth.{Spans, AreSpans, spans}
use Rattle.nest_flat.proofs.BytesGrown.{spans-known, whole-at, joined-whole, parts-joined}
use Rattle.nest_flat.proofs.growth.bytes.BytesBuilder.try_extend_from_self.Goals as goal

pub invariant_of-self-in_default : goal.invariant_of-self-in_default
invariant_of-self-in_default g c =
    let b = c.self.inside in
    let o = c.other.inside in
    let s = spans b.offsets b.bytes.items b.validity in
    let r = spans o.offsets o.bytes.items o.validity in
    let h = spans-known b.offsets b.bytes.items b.validity c.known-2.ensures.some c.known-2.ensures.rising c.known-2.ensures.first c.self.invariant in
    let k = subst (λ (q : Spans). AreSpans q) (sym c.other.view_is) c.known.ensures.spans in
    let n : c.len_proxy-n.result ≡ count_rows b.offsets = omega (arith, c.len_proxy-n.ensures) in
    let m = c.len-m.ensures ∙ sym (ap (λ (q : Spans). count_rows q.offsets) c.other.view_is) in
    whole-at _ _ (parts-joined s r _ _ _ _ _ _ _ c.in_ok-join_ends.ensures.ok c.in_default.ensures.bytes c.as_slice.ensures.value c.in_default.ensures.bits refl n m) (joined-whole s r h k)
