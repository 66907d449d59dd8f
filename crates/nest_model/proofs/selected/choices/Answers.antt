use Rattle.nest_model.specs.SelectedLaws.{length-selected, selected-append, selected-range, selected-all}
use Rattle.nest_model.proofs.selected.choices.Goals as goal

pub returns-clause-count : goal.returns-clause-count
returns-clause-count c = length-selected

pub returns-clause-joined : goal.returns-clause-joined
returns-clause-joined c = selected-append

pub returns-clause-of_range : goal.returns-clause-of_range
returns-clause-of_range c = selected-range

pub returns-clause-of_all : goal.returns-clause-of_all
returns-clause-of_all c = selected-all
