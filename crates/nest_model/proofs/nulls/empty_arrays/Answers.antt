use Rattle.nest_model.specs.NullLayout.{empty_layout}
use Rattle.nest_model.specs.NullLaws.{empty-layout, null-slots, is-array}
use Rattle.nest_model.proofs.nulls.empty_arrays.Goals as goal

pub returns-clause-data_type : goal.returns-clause-data_type
returns-clause-data_type c = λ t h. (empty-layout t h).typed

pub returns-clause-slots : goal.returns-clause-slots
returns-clause-slots c = λ t h. null-slots t 0 (empty_layout t) (empty-layout t h)

pub returns-clause-fits : goal.returns-clause-fits
returns-clause-fits c = λ t h. (empty-layout t h).fits

pub returns-clause-array : goal.returns-clause-array
returns-clause-array c = λ t h. is-array t 0 (empty_layout t) (empty-layout t h)
