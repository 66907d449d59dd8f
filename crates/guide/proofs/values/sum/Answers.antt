use Rattle.std.proofs.Common.{rules, arith, ◌≡◌, ℕ, length, List, [], ◌∷◌, ℤ, pos, ◌+ℤ◌, FitsSigned, to_z, of_z, w64}
use Rattle.std.proofs.Math.Facts.{to_z-of_z}
use Rattle.nest_model.specs.Slot as slots
use Rattle.nest_model.specs.Meaning.{slots_of}
use Rattle.nest_model.specs.Reads.{slots-length}
use Rattle.guide.specs.Columns.{total}
use Rattle.guide.proofs.Sums.{total_next, low_next, high_next}
use Rattle.guide.proofs.values.sum.Goals as goal

pub loop-number-init : goal.loop-number-init
loop-number-init c =
    let count = slots-length c.args.numbers.now in
    record { so_far = search rules; low = search rules; high = search rules; few = search (rules, count) }

pub loop-number-preserved-in-Some-number : goal.loop-number-preserved-in-Some-number
loop-number-preserved-in-Some-number c =
    let s = to_z mir.Syntax.w128 c.loop-number.sum-bits in
    let z = c.from-sum.result in
    let it = c.loop-number.number-iterator in
    let rest = c.next.new.self in
    let fits : FitsSigned mir.Syntax.w128 (s +ℤ z) = search rules in
    let small : FitsSigned mir.Syntax.w64 z = search rules in
    let wide : FitsSigned mir.Syntax.w128 z = search rules in
    let step : it ≡ slots.number (z ∷ []) ∷ rest = search rules in
    let known = c.loop-number.invariant in
    rw (to_z-of_z wide, to_z-of_z fits) (record {
      so_far = total_next s z (total (slots_of c.args.numbers.now)) it rest step known.so_far;
      low = low_next s z (length (slots_of c.args.numbers.now)) it rest (slots.number (z ∷ [])) step small known.low;
      high = high_next s z (length (slots_of c.args.numbers.now)) it rest (slots.number (z ∷ [])) step small known.high;
      few = known.few;
    })
