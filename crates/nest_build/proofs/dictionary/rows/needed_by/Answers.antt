use Rattle.std.specs.Prelude.{None}
use Rattle.std.proofs.Common.{◌≡◌, ◌<◌, ◌∙◌, length, sym, ap, take, arith}
use Rattle.std.proofs.Math.Seq.{take-length}
use Rattle.nest_model.specs.BuilderRow.{values_needed}
use Rattle.nest_model.specs.BuilderRowLaws.{values_needed-above}
use Rattle.nest_build.specs.Keys.{encoded_keys}
use Rattle.nest_build.proofs.Keys.{row_list-length, needed_more, needed_same}
use Rattle.nest_build.proofs.dictionary.rows.needed_by.Goals as goal
use Rattle.nest_build.proofs.dictionary.rows.needed_by.Goals.{in-Some, in_default}

pub overflow_add-number : goal.overflow_add-number
overflow_add-number g c =
    let keys = encoded_keys c.args.keys.now in
    let n = row_list-length c.args.keys.now in
    let within : c.loop-i.i < length keys = omega (arith, n, c.loop-i-test.true, c.len-i-end.ensures) in
    let above = values_needed-above keys c.loop-i.i c.in-Some.number None within (sym c.in-Some.ensures) in
    omega (arith, above, c.requires.fits)

pub loop-i-preserved : goal.loop-i-preserved
loop-i-preserved g c =
    let keys = encoded_keys c.args.keys.now in
    let n = row_list-length c.args.keys.now in
    let within : c.loop-i.i < length keys = omega (arith, n, c.loop-i-test.true, c.len-i-end.ensures) in
    elim c.match-key_of.branch [
      | in-Some w ↦ needed_more keys c.loop-i.i w.in-Some.number c.loop-i.needed c.match-key_of.needed within w.in-Some.ensures c.loop-i.invariant (w.needed-is ∙ w.max-needed.ensures)
      | in_default w ↦ w.needed-is ∙ needed_same keys c.loop-i.i c.loop-i.needed within w.in_default.ensures c.loop-i.invariant
    ]

pub returns : goal.returns
returns g c =
    let keys = encoded_keys c.args.keys.now in
    let n = row_list-length c.args.keys.now in
    let e : c.loop-i.i ≡ length keys = omega (arith, n, c.loop-i-test.false, c.loop-i.auto.i-end, c.len-i-end.ensures) in
    c.loop-i.invariant ∙ ap (λ i. values_needed (take i keys)) e ∙ ap values_needed (take-length keys)
