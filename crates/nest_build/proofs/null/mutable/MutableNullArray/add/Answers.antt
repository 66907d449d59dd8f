use Rattle.std.proofs.Common.{ap, sym, ◌∙◌, arith}
use Rattle.std.specs.Prelude.{Some}
use Rattle.nest_build.proofs.NullTrees.{null-accepted, null-fits, null-past}
use Rattle.nest_build.proofs.null.mutable.MutableNullArray.add.Goals as goal

pub returns-clause-accepted : goal.returns-clause-accepted
returns-clause-accepted c = null-accepted c.args.self.now c.push.new.self c.known.ensures.kind c.in_default.ensures.ok

pub returns-clause-unrefused : goal.returns-clause-unrefused
returns-clause-unrefused c = null-fits c.args.self.now c.known.ensures.fits c.known.ensures.kind (omega (arith, c.in_default.ensures.room))

pub returns-in-Err-clause-cause : goal.returns-in-Err-clause-cause
returns-in-Err-clause-cause c =
    let full = c.in-Err.ensures.full in
    (full.0, null-past c.args.self.now c.known.ensures.fits c.known.ensures.kind (omega (arith, full.1)) ∙ ap Some (sym full.0))
