use Rattle.nest_build.proofs.FlatTrees.{flat-tells}
use Rattle.nest_build.proofs.Rows.{none_shown}
use Rattle.nest_build.proofs.flat.AnyMutableArray.validity.Goals as goal

pub returns-clause-nulls : goal.returns-clause-nulls
returns-clause-nulls g c = flat-tells _ _ c.bits.ensures c.facts.ensures.fits c.facts.ensures.nulls

pub returns-clause-none : goal.returns-clause-none
returns-clause-none g c = λ e. none_shown (λ b. b.now) c.bits.result _ c.bits.ensures e
