use Rattle.nest_model.specs.SelectedLaws.{mask_indices-exact, mask_indices-rise, mask_indices-all}
use Rattle.nest_model.proofs.selected.masks.Goals as goal

pub returns-clause-selected : goal.returns-clause-selected
returns-clause-selected c = mask_indices-exact

pub returns-clause-rising : goal.returns-clause-rising
returns-clause-rising c = mask_indices-rise

pub returns-clause-of_all : goal.returns-clause-of_all
returns-clause-of_all c = mask_indices-all
