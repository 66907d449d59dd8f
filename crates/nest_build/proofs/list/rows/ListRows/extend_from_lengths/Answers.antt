use Rattle.std.specs.Prelude.{None}
use Rattle.std.proofs.Common.{◌≡◌, ◌+◌, ◌++◌, length, get_or, take, ap, ◌∙◌, arith}
use Rattle.std.proofs.lemmas.List.{length-append, take_more, take_all}
use Rattle.nest_model.specs.BuilderRow.{end_from}
use Rattle.nest_model.specs.BuilderAddRow.{rows_of_lengths}
use Rattle.nest_build.proofs.Rows.{lengths-count, so-far-end, so-far-more, so-far-past}
use Rattle.nest_build.proofs.list.rows.ListRows.extend_from_lengths.Goals as goal

pub returns-in-Err-clause-cause : goal.returns-in-Err-clause-cause
returns-in-Err-clause-cause g c =
    so-far-past c.args.self.now c.loop-items.self c.args.lengths.now c.loop-items.items-index _ c.in-Err.error c.loop-items.invariant c.loop-items-test.true c.in-Err.ensures.cause

pub loop-items-preserved : goal.loop-items-preserved
loop-items-preserved g c =
    so-far-more c.args.self.now c.loop-items.self c.push_length.new.self (take c.loop-items.items-index c.args.lengths.now) (take (c.loop-items.items-index + 1) c.args.lengths.now) (get_or c.args.lengths.now c.loop-items.items-index None)
    c.loop-items.invariant c.in_default.ensures.ok (take_more c.args.lengths.now c.loop-items.items-index None c.loop-items-test.true)

pub returns-clause-within : goal.returns-clause-within
returns-clause-within g c =
    let old = c.args.self.now in
    let ns = c.args.lengths.now in
    let all : take c.loop-items.items-index ns ≡ ns = take_all c.loop-items.items-index ns c.loop-items-test.false in
    let e = c.loop-items.invariant ∙ ap (λ ms. old ++ rows_of_lengths (end_from 0 old) ms) all in
    let n = ap length e ∙ length-append old (rows_of_lengths (end_from 0 old) ns) in
    let m = lengths-count (end_from 0 old) ns in
    let s = so-far-end old c.loop-items.self ns e in
    (omega (arith, n, m, c.last-last.ensures.room), omega (arith, s, c.last-last.ensures.value, c.last-last.ensures.fits))
