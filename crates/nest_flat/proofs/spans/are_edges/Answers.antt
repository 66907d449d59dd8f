use Rattle.std.specs.Prelude.{◌+◌, ◌<◌, length}
use Rattle.std.specs.Str.{IsCharBoundary}
use Rattle.std.proofs.Common.{arith, below_more, sym, ◌∙◌, subst}
use Rattle.nest_flat.proofs.Texts.{distance, first-edge, offset-at}
use Rattle.nest_flat.proofs.spans.are_edges.Goals as goal

pub loop-i-init : goal.loop-i-init
loop-i-init g c = λ k h. first-edge c.args.offsets.now c.args.text.now k h c.utf8.text

pub overflow_sub-end : goal.overflow_sub-end
overflow_sub-end g c =
    let h : c.loop-i.i + 1 < length c.args.offsets.now = omega arith in
    let a = offset-at c.args.offsets.now 0 c.first-first.result c.first-first.ensures in
    let b = offset-at c.args.offsets.now (c.loop-i.i + 1) c.start_end-end.result.1 c.start_end-end.ensures.second in
    let r = c.known.ensures.rising 0 (c.loop-i.i + 1) (omega arith) h in
    omega arith

pub returns-then-not-is_char_boundary : goal.returns-then-not-is_char_boundary
returns-then-not-is_char_boundary g c =
    let h : c.loop-i.i + 1 < length c.args.offsets.now = omega arith in
    let e = distance c.args.offsets.now (c.loop-i.i + 1) c.first-first.result c.start_end-end.result.1 c.first-first.ensures c.start_end-end.ensures.second in
    (λ f. cc, λ e'. sym c.if-not-is_char_boundary.true ∙ c.is_char_boundary.ensures.test.1 (subst (λ n. IsCharBoundary c.args.text.now n) (sym e) (e' (c.loop-i.i + 1) h)))

pub loop-i-preserved : goal.loop-i-preserved
loop-i-preserved g c =
    let e = distance c.args.offsets.now (c.loop-i.i + 1) c.first-first.result c.start_end-end.result.1 c.first-first.ensures c.start_end-end.ensures.second in
    below_more _ _ c.loop-i.invariant (subst (λ n. IsCharBoundary c.args.text.now n) e (c.is_char_boundary.ensures.test.0 c.if-not-is_char_boundary.false))
