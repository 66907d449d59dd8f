use Rattle.nest_model.specs.SameArrayLaws.{same-refl, same-sym, same-trans, same_array-decides}
use Rattle.nest_model.proofs.same.equivalence.Goals as goal

pub returns-clause-reflexive : goal.returns-clause-reflexive
returns-clause-reflexive c = same-refl

pub returns-clause-symmetric : goal.returns-clause-symmetric
returns-clause-symmetric c = same-sym

pub returns-clause-transitive : goal.returns-clause-transitive
returns-clause-transitive c = same-trans

pub returns-clause-decided : goal.returns-clause-decided
returns-clause-decided c = same_array-decides
