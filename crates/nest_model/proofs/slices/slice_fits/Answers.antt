use Rattle.nest_model.specs.FitsLaws.{fits-cut, top-fits-cut}
use Rattle.nest_model.proofs.slices.slice_fits.Goals as goal

pub returns-clause-fits : goal.returns-clause-fits
returns-clause-fits c = fits-cut

pub returns-clause-keeps : goal.returns-clause-keeps
returns-clause-keeps c = top-fits-cut
