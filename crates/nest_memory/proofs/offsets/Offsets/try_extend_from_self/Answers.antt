use Rattle.std.proofs.Common.{◌≡◌, ◌≤◌, ◌+◌, ◌-◌, [], ◌∷◌, ◌++◌, ◌∙◌, ap, sym, arith}
use Rattle.nest_memory.specs.Rising.{last_of}
use Rattle.nest_memory.proofs.Rises.{last_more}
use Rattle.nest_memory.proofs.OffsetReads.{joined_more, index_read, within_last}
use Rattle.nest_memory.proofs.offsets.Offsets.try_extend_from_self.Goals as goal

pub returns-in-Err-clause-overflow : goal.returns-in-Err-clause-overflow
returns-in-Err-clause-overflow g c =
    let other = c.args.other.now in
    let fits : last_of c.args.self.now + last_of other ≤ g.O.Offset.largest =
    omega (arith, c.end_fits.ensures.0 c.if-not-end_fits.false, c.last.ensures, c.last-2.ensures) in
    let start = index_read other c.loop-i.i _ c.start_end-start.ensures.first in
    let end = within_last other (c.loop-i.i + 1) _ c.known.ensures.rising c.start_end-start.ensures.second in (
      λ h. absurd (omega (arith, fits, c.loop-i.invariant.last, start, end, c.start_end-start.ensures.ordered, c.in-Err.ensures.overflow.0 h)),
      λ h. absurd (omega (arith, fits, h)),
    )

pub loop-i-preserved : goal.loop-i-preserved
loop-i-preserved g c =
    let old = c.args.self.now in
    let other = c.args.other.now in
    let start = index_read other c.loop-i.i _ c.start_end-start.ensures.first in
    let end = index_read other (c.loop-i.i + 1) _ c.start_end-start.ensures.second in
    let pushed : last_of c.loop-i.self + (c.start_end-start.result.1 - c.start_end-start.result.0) ≡ last_of old + c.start_end-start.result.1 =
    omega (arith, c.loop-i.invariant.last, start, c.start_end-start.ensures.ordered) in
    record {
      joined_so_far =
          c.in_default.ensures.ok
          ∙ (λ k. c.loop-i.invariant.joined_so_far k ++ pushed k ∷ [])
          ∙ joined_more old other c.loop-i.i _ c.start_end-start.ensures.second;
      last =
          ap last_of (c.in_default.ensures.ok ∙ ap (λ n. c.loop-i.self ++ n ∷ []) pushed)
          ∙ last_more c.loop-i.self _
          ∙ ap (λ n. last_of old + n) (sym end);
    }
