use Rattle.std.proofs.Common.{◌≡◌, length, ap, ◌∙◌, arith}
use Rattle.std.specs.Prelude.{Err}
use Rattle.std.specs.Option.{option_copied}
use Rattle.nest_memory.specs.Rising.{last_of}
use Rattle.nest_model.specs.Part.{count_rows}
use Rattle.nest_flat.specs.BytesGrowth.{Spans, spans, pushed_span}
use Rattle.nest_flat.proofs.BytesGrown.{spans-known, whole-at, pushed-whole, parts-pushed, memory-alone}
use Rattle.nest_flat.proofs.growth.bytes.BytesBuilder.try_push.Goals as goal

pub returns-in-Err-clause-overflow : goal.returns-in-Err-clause-overflow
returns-in-Err-clause-overflow g c =
    let e = ap (λ (s : Spans). last_of s.offsets) c.self.view_is in
    let l = ap length c.bytes_of.ensures in
    memory-alone (Err c.in-Err.error) c.in_ok-push_end.field-0 _ c.in-Err.ensures.memory (λ p. c.in_ok-push_end.ensures.overflow.1 (omega (arith, p, e, l)))

pub invariant_of-self-in_default : goal.invariant_of-self-in_default
invariant_of-self-in_default g c =
    let b = c.self.inside in
    let s = spans b.offsets b.bytes.items b.validity in
    let h = spans-known b.offsets b.bytes.items b.validity c.known.ensures.some c.known.ensures.rising c.known.ensures.first c.self.invariant in
    let n : c.len_proxy-len.result ≡ count_rows b.offsets = omega (arith, c.len_proxy-len.ensures) in
    whole-at _ _ (parts-pushed s _ _ _ _ _ (option_copied c.args.item) c.in_ok-push_end.ensures.ok c.bytes_of.ensures c.in_default.ensures.bytes c.in_default.ensures.bit n) (pushed-whole s (option_copied c.args.item) h)

pub returns-clause-ok : goal.returns-clause-ok
returns-clause-ok g c =
    let b = c.self.inside in
    let s = spans b.offsets b.bytes.items b.validity in
    let n : c.len_proxy-len.result ≡ count_rows b.offsets = omega (arith, c.len_proxy-len.ensures) in
    parts-pushed s _ _ _ _ _ (option_copied c.args.item) c.in_ok-push_end.ensures.ok c.bytes_of.ensures c.in_default.ensures.bytes c.in_default.ensures.bit n
    ∙ ap (pushed_span (option_copied c.args.item)) c.self.view_is
