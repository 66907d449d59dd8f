use Rattle.std.proofs.Common.{◌≡◌, ◌+◌, ◌*◌, ◌∙◌, sym, inr, length, arith}
use Rattle.nest_memory.specs.TypeTree.{size_of}
use Rattle.nest_any.proofs.RowLaws.{rows-below}
use Rattle.nest_any.proofs.rows.push_fixed_row.Goals as goal
use Rattle.nest_any.proofs.rows.push_fixed_row.Goals.{in-Some, in-None}

pub returns-in_default-clause-cause : goal.returns-in_default-clause-cause
returns-in_default-clause-cause c = λ d k n. inr (λ q.
    let t = c.args.data_type.now in
    let m = length c.args.rows.now + 1 in
    let fits = c.ranges.count.fits in
    elim c.match-checked_add.branch [
      | in-Some w ↦
          let r : w.in-Some.rows ≡ m = omega (arith, w.in-Some.ensures.1, c.len.ensures) in
          let e : w.in-Some.rows * c.size-size.result ≡ m * size_of t = (λ i. r i * c.size-size.ensures.value i) in
          let h = rw (sym w.end-is ∙ c.in_default.is) at w.checked_mul-end.ensures in
          h (omega (arith, e, q.1, n, fits))
      | in-None w ↦
          let b = rows-below m (size_of t) (omega (arith, c.size-size.ensures.some, c.size-size.ensures.value)) in
          w.in-None.ensures (omega (arith, b, q.1, n, fits, c.len.ensures))
    ])
