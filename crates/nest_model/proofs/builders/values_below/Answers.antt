use Rattle.std.proofs.Common.{refl}
use Rattle.nest_model.specs.BuilderLevelLaws.{own-length}
use Rattle.nest_model.specs.BuilderKeyLaws.{place-holds, place-lacks}
use Rattle.nest_model.proofs.builders.values_below.Goals as goal

pub returns-clause-known : goal.returns-clause-known
returns-clause-known c = λ i k keys d v place e. rw e refl

pub returns-clause-there : goal.returns-clause-there
returns-clause-there c = λ d v place t e. let h = place-holds v _ place e in (rw (← (own-length d)) h.0, (t, h.1))

pub returns-clause-another : goal.returns-clause-another
returns-clause-another c = λ i k keys d v t l. rw (place-lacks d v t l) refl
