use Rattle.std.proofs.Common.{◌≤◌, ap, ◌∙◌, arith}
use Rattle.std.specs.Prelude.{if◌then◌else◌}
use Rattle.nest_model.specs.Part.{count_rows}
use Rattle.nest_flat.specs.BytesGrowth.{Spans, spans, first_spans, bare_spans}
use Rattle.nest_flat.proofs.BytesGrown.{spans-known, whole-at, taken-whole, parts-taken}
use Rattle.nest_flat.proofs.growth.bytes.BytesBuilder.rollback.Goals as goal

pub invariant_of-self : goal.invariant_of-self
invariant_of-self g c =
    let b = c.self.inside in
    let s = spans b.offsets b.bytes.items b.validity in
    let h = spans-known b.offsets b.bytes.items b.validity c.known.ensures.some c.known.ensures.rising c.known.ensures.first c.self.invariant in
    let k : c.args.n ≤ count_rows b.offsets = omega (arith, c.requires, ap (λ (r : Spans). count_rows r.offsets) c.self.view_is) in
    whole-at _ _ (parts-taken s _ _ _ c.args.n _ c.args.masked h k c.truncate.ensures c.last.ensures c.truncate-2.ensures.items c.rollback.ensures) (taken-whole s c.args.n c.args.masked h k)

pub returns : goal.returns
returns g c =
    let b = c.self.inside in
    let s = spans b.offsets b.bytes.items b.validity in
    let h = spans-known b.offsets b.bytes.items b.validity c.known.ensures.some c.known.ensures.rising c.known.ensures.first c.self.invariant in
    let k : c.args.n ≤ count_rows b.offsets = omega (arith, c.requires, ap (λ (r : Spans). count_rows r.offsets) c.self.view_is) in
    parts-taken s _ _ _ c.args.n _ c.args.masked h k c.truncate.ensures c.last.ensures c.truncate-2.ensures.items c.rollback.ensures
    ∙ ap (λ (r : Spans). if c.args.masked then first_spans c.args.n r else bare_spans (first_spans c.args.n r)) c.self.view_is
