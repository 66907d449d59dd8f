use Rattle.nest_model.specs.NullLayout.{null_layout}
use Rattle.nest_model.specs.NullLaws.{null-layout, null-slots, is-array}
use Rattle.nest_model.proofs.nulls.null_arrays.Goals as goal

pub returns-clause-data_type : goal.returns-clause-data_type
returns-clause-data_type c = λ t n h. (null-layout t n h).typed

pub returns-clause-length : goal.returns-clause-length
returns-clause-length c = λ t n h. (null-layout t n h).long

pub returns-clause-slots : goal.returns-clause-slots
returns-clause-slots c = λ t n h. null-slots t n (null_layout t n) (null-layout t n h)

pub returns-clause-fits : goal.returns-clause-fits
returns-clause-fits c = λ t n h. (null-layout t n h).fits

pub returns-clause-array : goal.returns-clause-array
returns-clause-array c = λ t n h. is-array t n (null_layout t n) (null-layout t n h)
